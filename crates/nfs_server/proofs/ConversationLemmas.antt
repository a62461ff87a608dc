-- What goes over a connection goes on.
use Rattle.std.proofs.Common.{◌≡◌, ◌⊎◌, inl, inr, ℕ, List, [], ◌∷◌, ◌++◌, length, take, append_assoc, append-nil}
use Rattle.std.proofs.Common.{Option, Result, Ok, Err, OnOk, IsErrOf, refl, sym, ◌∙◌, ap, subst}
use Rattle.std.proofs.Common.{◌+◌, ◌≤◌, suc, arith}
use Rattle.std.proofs.Math.Seq.{take-append_seam}
use Rattle.std.proofs.KnownBytes.{Appends-nil, Appends-trans, Consumes-nil, Consumes-trans}
use Rattle.std.specs.List.{concat}
use Rattle.std.specs.Io.KnownBytes.{Appends, Consumes}
use Rattle.nfs_rpc.specs.Records.{Holds, IsTooLarge, RecordsValue}
use Rattle.nfs_rpc.specs.declared.marking.RecordError.{RecordError}
use Rattle.nfs_rpc.specs.declared.marking.RecordError.TheVariants.{Memory, TooLarge}
use Rattle.nfs_streams.specs.Connections.{ConnectionValue, SendsAll, waiting}
use Rattle.nfs_streams.specs.Sent.{WritesPart}
use Rattle.nfs_schedule.specs.Answers.{reply_bytes}
use Rattle.nfs_schedule.specs.declared.answer.Answer.{Answer}
use Rattle.nfs_server.specs.AnswersTo.{AnswersRecord, number_after}
use Rattle.nfs_server.specs.Conversations.{Adds, AreReplies, IsCutOff, Cuts, GoesOn, IsReply}

replies_join : (host : List ℕ) (n m k : ℕ) (r q : List (List ℕ)) (a b : List (List ℕ)) → AreReplies host n m r a →
    AreReplies host m k q b → AreReplies host n k (r ++ q) (a ++ b)
replies_join host n m k [] q [] b x y = subst (λ (first : ℕ). AreReplies host first k q b) x y
replies_join host n m k (r ∷ rs) q (a ∷ more) b x y = (x.0, x.1, replies_join host x.0 m k rs q more b x.2 y)
replies_join host n m k [] q (a ∷ more) b x y = absurd x
replies_join host n m k (r ∷ rs) q [] b x y = absurd x

concat_join : (a b : List (List ℕ)) → concat (a ++ b) ≡ concat a ++ concat b
concat_join [] b = refl
concat_join (x ∷ a) b = ap (λ l. x ++ l) (concat_join a b) ∙ sym (append_assoc x (concat a) (concat b))

-- records, of a stream with the same bytes, stay given
held_as : (v : RecordsValue) (s t : List ℕ) (g h : List (List ℕ)) → s ≡ t → g ≡ h → Holds v s g → Holds v t h
held_as v s t g h same equal is =
    subst (λ (l : List (List ℕ)). Holds v t l) equal (subst (λ (l : List ℕ). Holds v l g) same is)

pub goes_none : (host : List ℕ) (n : ℕ) (c : ConnectionValue) (unread before : Option (List ℕ)) →
    GoesOn host n n c c unread unread before before
goes_none host n c unread before = record {
  came = [];
  records = [];
  replies = [];
  sent = [];
  read = Consumes-nil unread;
  holds = λ stream given is.
      held_as c.records stream (stream ++ []) given (given ++ []) (sym (append-nil stream)) (sym (append-nil given)) is;
  answered = refl;
  whole = append-nil (waiting c);
  written = Appends-nil before;
}

module _ (host : List ℕ) (n m k : ℕ) (a b c : ConnectionValue) (u v w x y z : Option (List ℕ)) where
  pub goes_join : GoesOn host n m a b u v x y → GoesOn host m k b c v w y z → GoesOn host n k a c u w x z
  goes_join f s = record {
    came = f.came ++ s.came;
    records = f.records ++ s.records;
    replies = f.replies ++ s.replies;
    sent = f.sent ++ s.sent;
    read = Consumes-trans u v w f.came s.came f.read s.read;
    holds = λ stream given is.
        held_as c.records ((stream ++ f.came) ++ s.came) (stream ++ (f.came ++ s.came))
        ((given ++ f.records) ++ s.records) (given ++ (f.records ++ s.records)) (append_assoc stream f.came s.came)
        (append_assoc given f.records s.records) (s.holds _ _ (f.holds stream given is));
    answered = replies_join host n m k f.records s.records f.replies s.replies f.answered s.answered;
    whole =
        ap (λ l. waiting a ++ l) (concat_join f.replies s.replies)
        ∙ sym (append_assoc (waiting a) (concat f.replies) (concat s.replies))
        ∙ ap (λ l. l ++ concat s.replies) f.whole
        ∙ append_assoc f.sent (waiting b) (concat s.replies)
        ∙ ap (λ l. f.sent ++ l) s.whole
        ∙ sym (append_assoc f.sent s.sent (waiting c));
    written = Appends-trans x y z f.sent s.sent f.written s.written;
  }

pub goes_break : (host : List ℕ) (n m : ℕ) (a b : ConnectionValue) (u v x y z : Option (List ℕ)) →
    GoesOn host n m a b u v x y → IsCutOff host m b v y z → IsCutOff host n a u x z
goes_break host n m a b u v x y z f s = record {
  number = s.number;
  last = s.last;
  left = s.left;
  sent = s.sent;
  goes = goes_join host n m s.number a b s.last u v s.left x y s.sent f s.goes;
  part = s.part;
}

-- a piece is taken in
pub goes_piece : (host : List ℕ) (n : ℕ) (old new : ConnectionValue) (piece : List ℕ)
    (unread left before : Option (List ℕ)) →
    ((stream : List ℕ) (given : List (List ℕ)) → Holds old.records stream given →
    Holds new.records (stream ++ piece) given) → new ≡ record old { records = new.records } →
    Consumes unread left piece → GoesOn host n n old new unread left before before
goes_piece host n old new piece unread left before takes same read = record {
  came = piece;
  records = [];
  replies = [];
  sent = [];
  read = read;
  holds = λ stream given is.
      held_as new.records (stream ++ piece) (stream ++ piece) given (given ++ []) refl (sym (append-nil given))
      (takes stream given is);
  answered = refl;
  whole = append-nil (waiting old) ∙ sym (ap (λ (v : ConnectionValue). waiting v) same);
  written = Appends-nil before;
}

-- what waits is sent
pub goes_sent : (host : List ℕ) (n : ℕ) (old new : ConnectionValue) (unread before after : Option (List ℕ)) →
    SendsAll old new → Appends before after (waiting old) → GoesOn host n n old new unread unread before after
goes_sent host n old new unread before after all written = record {
  came = [];
  records = [];
  replies = [];
  sent = waiting old;
  read = Consumes-nil unread;
  holds = λ stream given is.
      held_as new.records stream (stream ++ []) given (given ++ []) (sym (append-nil stream)) (sym (append-nil given))
      (subst (λ (v : ConnectionValue). Holds v.records stream given) (sym all) is);
  answered = refl;
  whole = ap (λ (v : ConnectionValue). waiting old ++ waiting v) (sym all);
  written = written;
}

module _ (host : List ℕ) (n m : ℕ) (bytes : List ℕ) (old between : ConnectionValue)
    (unread before after : Option (List ℕ))
    (gives : (stream : List ℕ) (given : List (List ℕ)) → Holds old.records stream given →
    Holds between.records stream (given ++ bytes ∷ [])) (same : waiting between ≡ waiting old) where
  -- a record is given, and answered
  pub goes_record : (new : ConnectionValue) → Adds host n m bytes between new before after →
      GoesOn host n m old new unread unread before after
  goes_record new a = record {
    came = [];
    records = bytes ∷ [];
    replies = a.reply ∷ [];
    sent = a.puts.sent;
    read = Consumes-nil unread;
    holds = λ stream given is.
        held_as new.records stream (stream ++ []) (given ++ bytes ∷ []) (given ++ bytes ∷ []) (sym (append-nil stream))
        refl
        (subst (λ (v : RecordsValue). Holds v stream (given ++ bytes ∷ [])) (sym a.same) (gives stream given is));
    answered = (m, a.is_reply, refl);
    whole =
        ap (λ l. waiting old ++ l) (append-nil a.reply) ∙ ap (λ l. l ++ a.reply) (sym same) ∙ a.puts.whole;
    written = a.puts.written;
  }

-- where what waits is not all sent it breaks off
pub breaks_sent : (host : List ℕ) (n : ℕ) (old : ConnectionValue) (unread before after : Option (List ℕ)) →
    WritesPart before after (waiting old) → IsCutOff host n old unread before after
breaks_sent host n old unread before after part = record {
  number = n;
  last = old;
  left = unread;
  sent = before;
  goes = goes_none host n old unread before;
  part = part;
}

pub breaks_here : (host : List ℕ) (n : ℕ) (old : ConnectionValue) (unread before : Option (List ℕ)) →
    IsCutOff host n old unread before before
breaks_here host n old unread before =
    breaks_sent host n old unread before before
    (record { sent = []; unsent = waiting old; whole = refl; written = Appends-nil before })

-- the record in hand has its reply, or has none
pub breaks_cut : (host : List ℕ) (n : ℕ) (bytes : List ℕ) (old between : ConnectionValue)
    (unread before after : Option (List ℕ)) →
    ((stream : List ℕ) (given : List (List ℕ)) → Holds old.records stream given →
    Holds between.records stream (given ++ bytes ∷ [])) → waiting between ≡ waiting old →
    Cuts host n bytes between before after → IsCutOff host n old unread before after
breaks_cut host n bytes old between unread before after gives same (inl c) =
    let all : List ℕ = waiting between ++ c.1 in
    let last : ConnectionValue = record between { gathered = all; last = [] } in
    record {
      number = c.0;
      last = last;
      left = unread;
      sent = before;
      goes =
          goes_record host n c.0 bytes old between unread before before gives same last
          (record {
            reply = c.1;
            is_reply = c.2;
            same = refl;
            puts = record { sent = []; whole = sym (append-nil all); written = Appends-nil before };
          });
      part = subst (λ (l : List ℕ). WritesPart before after l) (sym (append-nil all)) c.3;
    }
breaks_cut host n bytes old between unread before after gives same (inr part) =
    breaks_sent host n old unread before after (subst (λ (l : List ℕ). WritesPart before after l) same part)

-- ---- one record
-- its answer is a reply to it
pub replied : (host : List ℕ) (n m : ℕ) (bytes : List ℕ) (answer : Answer) → AnswersRecord n host bytes answer →
    m ≡ number_after n (Ok answer) → IsReply host n m bytes (reply_bytes answer)
replied host n m bytes answer is number =
    record { answer = answer; answers = is; spelled = refl; number = number }

-- from the host that it still is
pub replied_along : (now host : List ℕ) (n m : ℕ) (bytes : List ℕ) (answer : Answer) → now ≡ host →
    AnswersRecord n now bytes answer → m ≡ number_after n (Ok answer) → IsReply host n m bytes (reply_bytes answer)
replied_along now host n m bytes answer at is number =
    subst (λ (h : List ℕ). IsReply h n m bytes (reply_bytes answer)) at (replied now n m bytes answer is number)

module _ (host : List ℕ) (n m : ℕ) (bytes reply : List ℕ) (is : IsReply host n m bytes reply)
    (old mid : ConnectionValue) (same : mid.records ≡ old.records) (more : waiting mid ≡ waiting old ++ reply) where
  -- its reply waits
  pub adds_waiting : (before : Option (List ℕ)) → Adds host n m bytes old mid before before
  adds_waiting before = record {
    reply = reply;
    is_reply = is;
    same = same;
    puts = record { sent = []; whole = sym more; written = Appends-nil before };
  }

  -- its reply is sent with what waited
  pub adds_sent : (new : ConnectionValue) (before after : Option (List ℕ)) → SendsAll mid new →
      Appends before after (waiting mid) → Adds host n m bytes old new before after
  adds_sent new before after all written = record {
    reply = reply;
    is_reply = is;
    same = ap (λ (v : ConnectionValue). v.records) all ∙ same;
    puts = record {
      sent = waiting mid;
      whole =
          sym more ∙ sym (append-nil (waiting mid))
          ∙ ap (λ (v : ConnectionValue). waiting mid ++ waiting v) (sym all);
      written = written;
    };
  }

  -- or a beginning of both is
  pub cuts_reply : (before after : Option (List ℕ)) → WritesPart before after (waiting mid) →
      Cuts host n bytes old before after
  cuts_reply before after part = inl (m, reply, is, subst (λ (l : List ℕ). WritesPart before after l) more part)

-- ---- a record whose answer is sent apart, behind what waited
module _ (host : List ℕ) (n m : ℕ) (bytes reply : List ℕ) (is : IsReply host n m bytes reply)
    (old first mid : ConnectionValue) (before between after : Option (List ℕ)) (none : SendsAll old first)
    (wrote : Appends before between (waiting old)) (same : mid.records ≡ first.records)
    (more : waiting mid ≡ waiting first ++ reply) where
  is_alone : waiting mid ≡ reply
  is_alone = more ∙ ap (λ (v : ConnectionValue). waiting v ++ reply) none

  -- all of it is sent
  pub adds_apart : (new : ConnectionValue) → SendsAll mid new → Appends between after (waiting mid) →
      Adds host n m bytes old new before after
  adds_apart new all written = record {
    reply = reply;
    is_reply = is;
    same =
        ap (λ (v : ConnectionValue). v.records) all ∙ same ∙ ap (λ (v : ConnectionValue). v.records) none;
    puts = record {
      sent = waiting old ++ waiting mid;
      whole =
          ap (λ l. waiting old ++ l) (sym is_alone) ∙ sym (append-nil (waiting old ++ waiting mid))
          ∙ ap (λ (v : ConnectionValue). (waiting old ++ waiting mid) ++ waiting v) (sym all);
      written = Appends-trans before between after (waiting old) (waiting mid) wrote written;
    };
  }

  -- or a beginning of it
  pub cuts_apart : WritesPart between after (waiting mid) → Cuts host n bytes old before after
  cuts_apart part =
      inl (
        m,
        reply,
        is,
        record {
          sent = waiting old ++ part.sent;
          unsent = part.unsent;
          whole =
              ap (λ l. waiting old ++ l) (sym is_alone ∙ part.whole)
              ∙ sym (append_assoc (waiting old) part.sent part.unsent);
          written = Appends-trans before between after (waiting old) part.sent wrote part.written;
        },
      )

-- it has no answer, and what waited is sent
pub cuts_all : (host : List ℕ) (n : ℕ) (bytes : List ℕ) (old : ConnectionValue) (before after : Option (List ℕ)) →
    Appends before after (waiting old) → Cuts host n bytes old before after
cuts_all host n bytes old before after written = inr (record {
  sent = waiting old;
  unsent = [];
  whole = sym (append-nil (waiting old));
  written = written;
})

-- ---- behind what went on
module _ (host : List ℕ) (n m : ℕ) (a b : ConnectionValue) (unread x y z : Option (List ℕ))
    (goes : GoesOn host n m a b unread unread x y) where
  module _ (now bytes : List ℕ) (at : now ≡ host) (mid : ConnectionValue)
      (gives : (stream : List ℕ) (given : List (List ℕ)) → Holds b.records stream given →
      Holds mid.records stream (given ++ bytes ∷ [])) (same : waiting mid ≡ waiting b) where
    -- the next record is answered
    pub next_goes : (k : ℕ) (c : ConnectionValue) → Adds now m k bytes mid c y z →
        GoesOn host n k a c unread unread x z
    next_goes k c adds =
        goes_join host n m k a b c unread unread unread x y z goes
        (goes_record host m k bytes b mid unread y z gives same c
        (subst (λ (h : List ℕ). Adds h m k bytes mid c y z) at adds))

    -- or it breaks off there
    pub next_breaks : Cuts now m bytes mid y z → IsCutOff host n a unread x z
    next_breaks cuts =
        goes_break host n m a b unread unread x y z goes
        (breaks_cut host m bytes b mid unread y z gives same
        (subst (λ (h : List ℕ). Cuts h m bytes mid y z) at cuts))

  module _ (later : ConnectionValue) (equal : later ≡ b) where
    -- what waits is sent
    pub then_sent : (c : ConnectionValue) → SendsAll later c → Appends y z (waiting later) →
        GoesOn host n m a c unread unread x z
    then_sent c all written =
        goes_join host n m m a b c unread unread unread x y z goes
        (goes_sent host m b c unread y z (subst (λ (v : ConnectionValue). SendsAll v c) equal all)
        (subst (λ (v : ConnectionValue). Appends y z (waiting v)) equal written))

    -- or a beginning of it
    pub then_breaks : WritesPart y z (waiting later) → IsCutOff host n a unread x z
    then_breaks part =
        goes_break host n m a b unread unread x y z goes
        (breaks_sent host m b unread y z (subst (λ (v : ConnectionValue). WritesPart y z (waiting v)) equal part))

-- ---- how many records were given
-- one more was given, and answered
pub given_more : (n k : ℕ) (r : List ℕ) (old mid new : RecordsValue) → n ≤ length old.queued + k →
    old ≡ record mid { queued = r ∷ mid.queued } → new ≡ mid → n ≤ length new.queued + (k + 1)
given_more n k r old mid new few gives same =
    let one : length old.queued ≡ suc (length mid.queued) = ap (λ (v : RecordsValue). length v.queued) gives in
    let still : length new.queued ≡ length mid.queued = ap (λ (v : RecordsValue). length v.queued) same in
    omega (arith, few, one, still)

-- what waited is sent behind them
pub given_all : (n k most : ℕ) (later now new : ConnectionValue) → n ≤ length now.records.queued + k → k ≤ most →
    later ≡ now → SendsAll later new → n ≤ length new.records.queued + most
given_all n k most later now new few low equal all =
    let still : length new.records.queued ≡ length later.records.queued =
    ap (λ (v : ConnectionValue). length v.records.queued) all in
    let so : length later.records.queued ≡ length now.records.queued =
    ap (λ (v : ConnectionValue). length v.records.queued) equal in
    omega (arith, few, low, still, so)

-- ---- pieces
-- what was lent as a slice stands there still
pub still_there : (now new old rest : List ℕ) (long : ℕ) → length new ≡ length old → length old ≡ long →
    now ≡ take long (new ++ rest) → now ≡ new
still_there now new old rest long kept is equal =
    equal ∙ ap (λ n. take n (new ++ rest)) (sym (kept ∙ is)) ∙ take-append_seam new rest

pub read_kept : (a b c : Option (List ℕ)) (bytes piece : List ℕ) (count : ℕ) → c ≡ b → piece ≡ bytes →
    Consumes a b (take count bytes) → Consumes a c (take count piece)
read_kept a b c bytes piece count same equal read =
    subst (λ (o : Option (List ℕ)). Consumes a o (take count piece)) (sym same)
    (subst (λ (l : List ℕ). Consumes a b (take count l)) (sym equal) read)

-- a piece is taken in, and what came with it is answered
pub piece_goes : (host : List ℕ) (n m : ℕ) (a b c : ConnectionValue) (piece : List ℕ)
    (unread left x y : Option (List ℕ)) →
    ((stream : List ℕ) (given : List (List ℕ)) → Holds a.records stream given →
    Holds b.records (stream ++ piece) given) → b ≡ record a { records = b.records } → Consumes unread left piece →
    GoesOn host n m b c left left x y → GoesOn host n m a c unread left x y
piece_goes host n m a b c piece unread left x y takes same read goes =
    goes_join host n n m a b c unread left left x x y (goes_piece host n a b piece unread left x takes same read) goes

pub piece_breaks : (host : List ℕ) (n : ℕ) (a b : ConnectionValue) (piece : List ℕ)
    (unread left x y : Option (List ℕ)) →
    ((stream : List ℕ) (given : List (List ℕ)) → Holds a.records stream given →
    Holds b.records (stream ++ piece) given) → b ≡ record a { records = b.records } → Consumes unread left piece →
    IsCutOff host n b left x y → IsCutOff host n a unread x y
piece_breaks host n a b piece unread left x y takes same read cut =
    goes_break host n n a b unread left x x y (goes_piece host n a b piece unread left x takes same read) cut

-- it is closed behind what went on
pub goes_closed : (host : List ℕ) (n m : ℕ) (a b : ConnectionValue) (unread left x y : Option (List ℕ)) →
    GoesOn host n m a b unread left x y → IsCutOff host n a unread x y
goes_closed host n m a b unread left x y goes = record {
  number = m;
  last = b;
  left = left;
  sent = y;
  goes = goes;
  part = record { sent = []; unsent = waiting b; whole = refl; written = Appends-nil y };
}

-- a piece is taken in, or nothing of it, and it breaks off behind that
pub taken_breaks : (host : List ℕ) (n : ℕ) (a b : ConnectionValue) (piece : List ℕ) (unread left x y : Option (List ℕ))
    (taken : Result (Unit {0}) RecordError) →
    OnOk taken ((stream : List ℕ) (given : List (List ℕ)) → Holds a.records stream given →
    Holds b.records (stream ++ piece) given × ¬ IsTooLarge (stream ++ piece)) →
    (IsErrOf taken TooLarge → (stream : List ℕ) (given : List (List ℕ)) → Holds a.records stream given →
    Holds b.records (stream ++ piece) given × IsTooLarge (stream ++ piece)) →
    (IsErrOf taken Memory → b ≡ a) → b ≡ record a { records = b.records } → Consumes unread left piece →
    ((at : Option (List ℕ)) → IsCutOff host n b at x y) → IsCutOff host n a unread x y
taken_breaks host n a b piece unread left x y (Ok u) ok too_large memory same read cut =
    piece_breaks host n a b piece unread left x y (λ stream given is. (ok stream given is).0) same read (cut left)
taken_breaks host n a b piece unread left x y (Err TooLarge) ok too_large memory same read cut =
    piece_breaks host n a b piece unread left x y (λ stream given is. (too_large refl stream given is).0) same read
    (cut left)
taken_breaks host n a b piece unread left x y (Err Memory) ok too_large memory same read cut =
    subst (λ (v : ConnectionValue). IsCutOff host n v unread x y) (memory refl) (cut unread)

-- ---- batches, and the end
module _ (host : List ℕ) (n m : ℕ) (a b : ConnectionValue) (u v x y : Option (List ℕ))
    (goes : GoesOn host n m a b u v x y) where
  module _ (now : List ℕ) (k : ℕ) (later z : Option (List ℕ)) (at : now ≡ host) (number : k ≡ m)
      (same : later ≡ y) where
    -- it goes on further
    pub further_goes : (i : ℕ) (c : ConnectionValue) (w : Option (List ℕ)) → GoesOn now k i b c v w later z →
        GoesOn host n i a c u w x z
    further_goes i c w more =
        goes_join host n m i a b c u v w x y z goes
        (subst (λ (o : Option (List ℕ)). GoesOn host m i b c v w o z) same
        (subst (λ (j : ℕ). GoesOn host j i b c v w later z) number
        (subst (λ (h : List ℕ). GoesOn h k i b c v w later z) at more)))

    -- or breaks off there
    pub further_breaks : IsCutOff now k b v later z → IsCutOff host n a u x z
    further_breaks cut =
        goes_break host n m a b u v x y z goes
        (subst (λ (o : Option (List ℕ)). IsCutOff host m b v o z) same
        (subst (λ (j : ℕ). IsCutOff host j b v later z) number
        (subst (λ (h : List ℕ). IsCutOff h k b v later z) at cut)))

  -- it is closed there, and nothing more is sent
  pub closed_there : (z : Option (List ℕ)) → z ≡ y → IsCutOff host n a u x z
  closed_there z same =
      subst (λ (o : Option (List ℕ)). IsCutOff host n a u x o) (sym same) (goes_closed host n m a b u v x y goes)

  -- nothing more comes
  pub goes_ended : (k : ℕ) (w z : Option (List ℕ)) (bytes : List ℕ) (count : ℕ) → Consumes v w (take count bytes) →
      count ≡ 0 → k ≡ m → z ≡ y → GoesOn host n k a b u w x z
  goes_ended k w z bytes count read none number same =
      let nothing : Consumes v w [] = subst (λ (i : ℕ). Consumes v w (take i bytes)) none read in
      let ended : GoesOn host n m a b u w x y =
      record {
        came = goes.came;
        records = goes.records;
        replies = goes.replies;
        sent = goes.sent;
        read =
            subst (λ (l : List ℕ). Consumes u w l) (append-nil goes.came)
            (Consumes-trans u v w goes.came [] goes.read nothing);
        holds = goes.holds;
        answered = goes.answered;
        whole = goes.whole;
        written = goes.written;
      } in
      subst (λ (o : Option (List ℕ)). GoesOn host n k a b u w x o) (sym same)
      (subst (λ (i : ℕ). GoesOn host n i a b u w x y) (sym number) ended)
