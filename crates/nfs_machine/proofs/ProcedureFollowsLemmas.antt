-- What each procedure that changes names or objects leaves: handles are given once, and what is true of every state
-- stays true.
use Rattle.std.proofs.Common.{◌≡◌, ◌==◌, ℕ, ◌+◌, ◌<◌, ◌≤◌, ◌^◌, Bool, true, false, not}
use Rattle.std.proofs.Common.{◌&&◌, ◌||◌, cond, List, [], Option, Some, None, Result, Ok, Err, IfOk, IfSome}
use Rattle.std.proofs.Common.{find, is_ok, length, take, nat_le, nat_lt, ◌⊎◌, inl, inr, refl, sym, ◌∙◌}
use Rattle.std.proofs.Common.{ap, subst, leb-true}
use Rattle.std.specs.List.{AllByRecursion, list_any}
use Rattle.std.specs.Cmp.{unsigned_Decides}
use Rattle.std.specs.FinMap.{FinMap, get, insert}
use Rattle.std.specs.Ordering.{nat_cmp}
use Rattle.nfs_wire.specs.declared.attributes.Time.{Time}
use Rattle.nfs_wire.specs.declared.calls.CreateHow.{CreateHow}
use Rattle.nfs_wire.specs.declared.calls.CreateHow.TheVariants.{Unchecked, Guarded, Exclusive}
use Rattle.nfs_wire.specs.declared.calls.DirOp.{DirOp}
use Rattle.nfs_wire.specs.declared.calls.WriteArguments.{WriteArguments}
use Rattle.nfs_wire.specs.declared.replies.Made.{Made}
use Rattle.nfs_wire.specs.declared.replies.Written.{Written}
use Rattle.nfs_wire.specs.declared.status.NfsStatus.{NfsStatus}
use Rattle.nfs_wire.specs.declared.status.NfsStatus.TheVariants as status
use Rattle.side_wire.specs.Messages.{HasLockForm}
use Rattle.nfs_machine.specs.FileLists.{of_file, with_list}
use Rattle.nfs_machine.specs.LocksFormed.{NoConflict, NoLocksConflict, NoSharesConflict}
use Rattle.nfs_machine.specs.Answers.{state_after}
use Rattle.nfs_machine.specs.Attributes.{entries_of, is_directory, links_of}
use Rattle.nfs_machine.specs.Bytes.{same_bytes}
use Rattle.nfs_machine.specs.Checks.{
  ◌>>=◌,
  holding,
  object_of,
  entries_in,
  bytes_in,
  plain_name_checked,
  changeable,
  permitted,
  entry_of,
}
use Rattle.nfs_machine.specs.Data.{size_limit, resized, written}
use Rattle.nfs_machine.specs.DataSteps.{WriteEnd, write_count, write_object}
use Rattle.nfs_machine.specs.Grants.{AllHeldUp, FileWaits}
use Rattle.nfs_machine.specs.OneFile.{IsHeldUp}
use Rattle.nfs_machine.specs.Laws.{GivesOnce, KeepsCookies, KeepsEntries, KeepsExports, LivesAs}
use Rattle.nfs_machine.specs.Making.{Wanted, given_attributes, new_object, with_entry, kind_checked}
use Rattle.nfs_machine.specs.NameSteps.{create_existing, create_over, wanted_file}
use Rattle.nfs_machine.specs.Permission.{ToChange, ToWrite}
use Rattle.nfs_machine.specs.RemoveSteps.{losing_name, without_object}
use Rattle.nfs_machine.specs.Resolve.{resolve}
use Rattle.nfs_machine.specs.Shown.{replaced, touched, with_content, with_object}
use Rattle.nfs_machine.specs.SideLaws.{LocksFit, OwnersFit}
use Rattle.nfs_machine.specs.State.{Regular, Directory, Link, Entry, Living, Lock, Request, Share, State, Content}
use Rattle.nfs_machine.specs.TimeLaws.{TouchesOnce}
use Rattle.nfs_machine.specs.Times.{time_of, touch}
use Rattle.nfs_machine.specs.WellFormed.{MountsFormed, TextsFit, WellFormed}
use Rattle.nfs_machine.specs.declared.context.Ctx.{Ctx}
use Rattle.nfs_machine.proofs.ChoiceLemmas.{Fresh, End, Known, Chosen, EndsAs, make_plan, make_new, known, known-holds}
use Rattle.nfs_machine.proofs.MapChangeLemmas.{differs-insert, differs-other, differs-there}
use Rattle.nfs_machine.proofs.ContinuesLemmas.{Continues, Turns, kinds-continued, continues-itself, continues-over}
use Rattle.nfs_machine.proofs.ContinuesLemmas.{continues-with, cookies-continued, gives-continued, lived-as}
use Rattle.nfs_machine.proofs.ContinuesLemmas.{texts-continued, touches-continued}
use Rattle.nfs_machine.proofs.CookieLemmas.{kept-added, kept-of, kept-same}
use Rattle.nfs_machine.proofs.LinksCountedLemmas.{Counts, counts-kept}
use Rattle.nfs_machine.proofs.NewObjectLemmas.{MakesEntry, names_of-kept, well_formed-made}
use Rattle.nfs_machine.specs.DataSteps.{write_end}
use Rattle.nfs_machine.proofs.ChecksPassedLemmas.{chained-is, is-directory, is-regular, resolved-lives}
use Rattle.nfs_machine.proofs.FileMapLemmas.{each-with, of-other, of-with}
use Rattle.nfs_machine.proofs.FirmLemmas.{
  FilesOn,
  Firm,
  firm-losing,
  firm-of,
  firm-on,
  formed-of,
  put-directory,
  put-new,
}
use Rattle.nfs_machine.proofs.FirmLemmas.{put-over}
use Rattle.nfs_machine.proofs.LooseLemmas.{Beside, well_formed-alike}
use Rattle.nfs_machine.proofs.LinkTextLemmas.{texts-put}
use Rattle.nfs_machine.proofs.WellFormedLemmas.{KeepsNames, replaced-alike, replaced-names}

-- no two owners conflict, requests that wait go on to conflict with what is held, and the rest is as in every state
pub record LocksFollow (old new : State) : Type 0 where
  pub apart : NoConflict old → NoConflict new
  pub waits : AllHeldUp old → AllHeldUp new
  pub firm : Firm old → Firm new

-- of a call at this time
pub record Follows (now : Time) (old new : State) : Type 0 where
  pub gives : GivesOnce old new
  pub touches : TouchesOnce now old new
  pub cookies : KeepsCookies old new
  pub formed : WellFormed old → WellFormed new
  pub counts : WellFormed old → Counts now old new
  pub locks : LocksFollow old new
  pub exports : KeepsExports old new
  -- what is mounted, held and waited for stays within its bounds
  pub mounts : new.mounts ≡ old.mounts
  pub bounds : LocksFit old → LocksFit new

pub locks-themselves : (m : State) → LocksFollow m m
locks-themselves m = record { apart = λ h. h; waits = λ h. h; firm = λ f. f }

-- where files live on
pub locks-on : (m : State) (objects : FinMap nat_cmp Living) (spent : ℕ → ℕ → Bool) →
    FilesOn m.objects objects
    → LocksFollow m (record m { objects = objects; spent = spent })
locks-on m objects spent on = record
    { apart = λ h. h; waits = λ h. h; firm = λ f. firm-on m f objects on spent m.mounts }

-- what is true of every state beside names
pub beside-follows : (old new : State) → TextsFit new → LocksFollow old new → new.mounts ≡ old.mounts →
    WellFormed old
    → Beside new
beside-follows old new texts locks mounts w = record {
  texts = texts;
  locks = formed-of new (locks.firm (firm-of old w.locks)) (locks.apart w.locks.apart) (locks.waits w.locks.held_up);
  mounts = subst MountsFormed (sym mounts) w.mounts;
}

-- what a file has goes: what waits for others is held up as before
waits-gone : (m : State) (number : ℕ) → AllHeldUp m → AllHeldUp (without_object m number)
waits-gone m number held q =
    elim (q == number) as (λ b. (q == number) ≡ b → FileWaits (without_object m number) q) [
      | true ↦ λ e.
          let none : of_file (with_list m.waiting number []) q ≡ [] =
          of-with m.waiting number [] q ∙ ap (λ b. cond b [] (of_file m.waiting q)) e in
          subst (AllByRecursion (IsHeldUp (of_file (with_list m.locks number []) q))) (sym none) tt
      | false ↦ λ e.
          subst (λ (locks : List Lock). AllByRecursion (IsHeldUp locks) (of_file (with_list m.waiting number []) q))
          (sym (of-other m.locks number [] q e))
          (subst (AllByRecursion (IsHeldUp (of_file m.locks q))) (sym (of-other m.waiting number [] q e)) (held q))
    ] refl

apart-gone : (m : State) (number : ℕ) → NoConflict m → NoConflict (without_object m number)
apart-gone m number h q = (
  each-with m.locks number [] (λ n (l : List Lock). NoLocksConflict l) (λ a b offset e. refl) (λ n. (h n).0) q,
  each-with m.shares number [] (λ n (l : List Share). NoSharesConflict l) tt (λ n. (h n).1) q,
)

-- an object that loses a name, and with its last its locks, while others change
pub locks-losing : (m : State) (objects : FinMap nat_cmp Living) → FilesOn m.objects objects →
    (names : ℕ) (now : Time)
    (number : ℕ) (o : Living) → get m.objects number ≡ Some o
    → LocksFollow m (losing_name (record m { objects = objects }) names now number o)
locks-losing m objects on names now number o at =
    let mid : State = record m { objects = objects } in record {
      apart = λ h.
          elim (nat_le names 1) as
          (λ b. NoConflict (cond b (without_object mid number) (with_object mid number (touched o now)))) [
            | true ↦ apart-gone mid number h
            | false ↦ h
          ];
      waits = λ h.
          elim (nat_le names 1) as
          (λ b. AllHeldUp (cond b (without_object mid number) (with_object mid number (touched o now)))) [
            | true ↦ waits-gone mid number h
            | false ↦ h
          ];
      firm = λ f. firm-losing m f objects on names now number o at;
    }

pub bounds-losing : (m : State) (names : ℕ) (now : Time) (number : ℕ) (o : Living) → LocksFit m
    → LocksFit (losing_name m names now number o)
bounds-losing m names now number o fit =
    elim (nat_le names 1) as (λ b. LocksFit (cond b (without_object m number) (with_object m number (touched o now)))) [
      | true ↦ λ q. (
        each-with m.locks number [] (λ n (l : List Lock). OwnersFit l) (λ owner offset has. absurd (has refl))
            (λ n. (fit n).0) q,
        each-with m.waiting number []
            (λ n (l : List Request). AllByRecursion (λ (r : Request). HasLockForm r.asked) l) tt
            (λ n. (fit n).1) q,
      )
      | false ↦ fit
    ]

pub mounts-losing : (m : State) (names : ℕ) (now : Time) (number : ℕ) (o : Living)
    → (losing_name m names now number o).mounts ≡ m.mounts
mounts-losing m names now number o =
    elim (nat_le names 1) as (λ b. (cond b (without_object m number) (with_object m number (touched o now))).mounts ≡
    m.mounts) [ true ↦ refl | false ↦ refl ]

pub exports-losing : (m : State) (names : ℕ) (now : Time) (number : ℕ) (o : Living) →
    KeepsExports m (losing_name m names now number o)
exports-losing m names now number o =
    elim (nat_le names 1) as
    (λ b. KeepsExports m (cond b (without_object m number) (with_object m number (touched o now)))) [
      | true ↦ record { exports = refl; last = refl }
      | false ↦ record { exports = refl; last = refl }
    ]

pub follows-itself : (now : Time) (m : State) → Follows now m m
follows-itself now m =
    record {
      gives = gives-continued now m m (continues-itself now m);
      touches = touches-continued now m m (continues-itself now m);
      cookies = cookies-continued now m m (continues-itself now m);
      formed = λ w. w;
      counts = λ w. counts-kept now m m (continues-itself now m) (λ n. refl);
      locks = locks-themselves m;
      exports = record { exports = refl; last = refl };
      mounts = refl;
      bounds = λ h. h;
    }

pub follows-after : {A : Type 0} (now : Time) (old : State) (end : Result (A × State) NfsStatus)
    → IfOk end (λ e. Follows now old e.1) → Follows now old (state_after old end)
follows-after now old (Ok end) f = f
follows-after now old (Err e) f = follows-itself now old

-- what holds of the value of a check
pub of-ok : {A : Type 0} (P : A → Type 0) (r : Result A NfsStatus) (x : A) → r ≡ Ok x → IfOk r P → P x
of-ok P (Ok y) x is all = (let same : y ≡ x = cc in subst P same all)
of-ok P (Err e) x is all = cc

-- ---- an object changes but for its names
pub record Alters (now : Time) (was is : Living) : Type 0 where
  pub keeps : KeepsNames was is
  pub turns : Turns now was is
  pub regular : is_ok (bytes_in was.content) ≡ true → is_ok (bytes_in is.content) ≡ true

pub follows-altered : (now : Time) (m : State) (number : ℕ) (was is : Living) → get m.objects number ≡ Some was
    → Alters now was is → Follows now m (with_object m number is)
follows-altered now m number was is lives alters =
    let c = continues-over now m m (continues-itself now m) number was lives is alters.turns in
    let locks = locks-on m (insert m.objects number is) m.spent
    (put-over m.objects m.objects (λ n file. file) number was is lives alters.regular) in record {
      gives = gives-continued now m (with_object m number is) c;
      touches = touches-continued now m (with_object m number is) c;
      cookies = cookies-continued now m (with_object m number is) c;
      formed = λ w.
          well_formed-alike m (with_object m number is) (replaced-alike m number was is lives alters.keeps)
          (replaced-names m number was is lives alters.keeps) (λ n g e. e) (record { exports = refl; last = refl })
          (beside-follows m (with_object m number is)
          (texts-continued now m (with_object m number is) c w.texts) locks refl w) w;
      counts = λ w. counts-kept now m (with_object m number is) c (replaced-names m number was is lives alters.keeps);
      locks = locks;
      exports = record { exports = refl; last = refl };
      mounts = refl;
      bounds = λ h. h;
    }

follows-replaced : (now : Time) (m : State) (number : ℕ) (was : Living) (is : Option Living)
    → get m.objects number ≡ Some was → IfSome is (Alters now was) → Follows now m (replaced m number is)
follows-replaced now m number was None lives alters = follows-itself now m
follows-replaced now m number was (Some o) lives alters = follows-altered now m number was o lives alters

alters-regular : (o : Living) (now : Time) (bytes : List ℕ) → is_directory o.content ≡ false
    → Alters now o (with_content o now (Regular bytes))
alters-regular o now bytes plain = record {
  keeps = record {
    export = refl;
    generation = refl;
    kind = sym plain;
    content = λ e. (let no : true ≡ false = sym e
        ∙ plain in cc);
  };
  turns = record {
    generation = refl;
    kind = sym plain;
    text = λ t e. cc;
    changed = refl;
    entries = λ name e f before after number. cc;
  };
  regular = λ e. refl;
}

module _ (m : State) (ctx : Ctx) where
  write-alters : (file : Living) (a : WriteArguments) →
      IfOk (write_object m.exports ctx file a)
      (λ (e : WriteEnd). IfSome e.after (Alters (time_of ctx.moment) file))
  write-alters file a =
      let P : WriteEnd → Type 0 = λ (e : WriteEnd). IfSome e.after (Alters (time_of ctx.moment) file) in
      chained-is P (bytes_in file.content) _
      (λ bytes is. chained-is P (holding (a.count == length a.«data») status.Invalid) _
      (λ x1 e1. chained-is P (changeable m.exports file) _
      (λ x2 e2. chained-is P (permitted ctx file ToWrite) _ (λ x3 e3.
      chained-is P (holding ((write_count a == 0) || nat_le (a.offset + write_count a) size_limit) status.FileTooBig) _
      (λ x4 e4.
      of (is-regular file.content bytes is) (write_count a == 0)
      (written bytes a.offset (take (write_count a) a.«data»)))))))
    where
      of : is_directory file.content ≡ false → (b : Bool) (bytes : List ℕ)
          → IfSome (cond b None (Some (with_content file (time_of ctx.moment) (Regular bytes))))
          (Alters (time_of ctx.moment) file)
      of plain true bytes = tt
      of plain false bytes = alters-regular file (time_of ctx.moment) bytes plain

  pub write-follows : (a : WriteArguments) → IfOk (write_end m ctx a) (λ e. Follows (time_of ctx.moment) m e.1)
  write-follows a =
      chained-is (λ (e : Written × State). Follows (time_of ctx.moment) m e.1) (object_of (resolve m ctx a.file)) _
      (λ file at.
      chained-is (λ (e : Written × State). Follows (time_of ctx.moment) m e.1)
      (write_object m.exports ctx file.object a) _
      (λ end is.
      follows-replaced (time_of ctx.moment) m file.number file.object end.after (resolved-lives m ctx a.file file at)
      (of-ok (λ (e : WriteEnd). IfSome e.after (Alters (time_of ctx.moment) file.object))
      (write_object m.exports ctx file.object a) end is (write-alters file.object a))))

  -- ---- an object is made
  abbrev pub EndFollows : End m → Type 0
  EndFollows (Known answer new) = Follows (time_of ctx.moment) m new
  EndFollows (Chosen makes shows) = (fresh : Fresh m) → Follows (time_of ctx.moment) m (makes fresh.choice).1

  pub ends-follow : (r : Result (End m) NfsStatus) (end : Result (Made × State) NfsStatus) → EndsAs m r end
      → IfOk r EndFollows → IfOk end (λ e. Follows (time_of ctx.moment) m e.1)
  ends-follow (Ok (Known answer new)) end is follows = subst (λ (r : Result (Made × State) NfsStatus). IfOk r
      (λ e. Follows (time_of ctx.moment) m e.1)) (sym is) follows
  ends-follow (Ok (Chosen makes shows)) end (fresh, is) follows = subst
      (λ (r : Result (Made × State) NfsStatus). IfOk r (λ e. Follows (time_of ctx.moment) m e.1)) (sym is)
      (follows fresh)
  ends-follow (Err e) end is follows = subst (λ (r : Result (Made × State) NfsStatus). IfOk r
      (λ e. Follows (time_of ctx.moment) m e.1)) (sym is) tt

  -- the text of a link was checked
  text-within : (links : ℕ) (c : Content) (x : Unit {0}) → kind_checked ctx links c ≡ Ok x → (t : List ℕ) → c ≡ Link t
      → length t ≤ 4096
  text-within links (Link text) x is t e =
      let same : text ≡ t = cc in
      subst (λ (s : List ℕ). length s ≤ 4096) same
      (of-ok (λ _. length text ≤ 4096) (kind_checked ctx links (Link text)) x is
      (chained-is (λ _. length text ≤ 4096) (holding (nat_le 1 (length text) && not (list_any (λ b. b == 0) text))
      status.Invalid) _ (λ x1 e1. short text (nat_le (length text) 4096) refl)))
    where
      short : (text : List ℕ) (b : Bool) → nat_le (length text) 4096 ≡ b
          → IfOk (holding b status.NameTooLong) (λ _. length text ≤ 4096)
      short text true e = leb-true (length text) 4096 e
      short text false e = tt
  text-within links other x is t e = cc

  -- it contains no name
  pub record Plain (wanted : Wanted) : Type 0 where
    pub entries : entries_of wanted.content ≡ []
    pub cookies : (last : ℕ) → wanted.content ≡ Directory [] last → 2 ≤ last

  module _ (name : List ℕ) (wanted : Wanted) (number : ℕ) (directory : Living) (entries : List Entry) (last : ℕ)
      (lives : get m.objects number ≡ Some directory) (content : directory.content ≡ Directory entries last)
      (none : find (λ (x : Entry). same_bytes x.name name) entries ≡ None) (plain : Plain wanted)
      (text : (t : List ℕ) → wanted.content ≡ Link t → length t ≤ 4096) where
    module _ (fresh : Fresh m) where
      abbrev wider : Living
      wider = with_content directory (time_of ctx.moment) (with_entry entries last name fresh.number)

      abbrev o : Living
      o = new_object ctx directory.export fresh.generation wanted

      abbrev new : State
      new = record (with_object (with_object m number wider) fresh.number o) { spent = fresh.spent }

      keeps : KeepsEntries (entries_of directory.content) (entries_of (with_entry entries last name fresh.number))
      keeps = kept-of directory.content entries _ last content (kept-added entries entries _ (kept-same entries)
          (λ e there same. cc))

      wide : Continues (time_of ctx.moment) m (with_object m number wider)
      wide = continues-with (time_of ctx.moment) m m (continues-itself (time_of ctx.moment) m) number directory lives
          (ap is_directory content) _ _ keeps

      other : (n : ℕ) → (n == fresh.number) ≡ false → get new.objects n ≡ get (with_object m number wider).objects n
      other n e = differs-other (with_object m number wider).objects new.objects fresh.number (Some o)
          (differs-insert (with_object m number wider).objects fresh.number o) n e

      abbrev Given : ℕ → ℕ → Type 0
      Given n g = LivesAs m n g ⊎ ((m.spent n g ≡ false) × (new.spent n g ≡ true) × (n < 2 ^ 64) × (g < 2 ^ 64))

      handles : (n g : ℕ) → LivesAs new n g → Given n g
      handles n g l =
          elim (n == fresh.number) as (λ b. (n == fresh.number) ≡ b → Given n g) [
            | true ↦ λ e.
                let is : n ≡ fresh.number = (unsigned_Decides n fresh.number).0 e in
                let there : get new.objects fresh.number ≡ Some o = differs-there (with_object m number wider).objects
                new.objects fresh.number (Some o) (differs-insert (with_object m number wider).objects
                fresh.number o) in
                let both : Some o ≡ Some l.object = sym (ap (get new.objects) is ∙ there) ∙ l.lives in
                let same : o ≡ l.object = cc in
                let generation : fresh.generation ≡ g = ap (λ (x : Living). x.generation) same ∙ l.generation_is in
                inr (
                  subst (λ k. m.spent k g ≡ false) (sym is) (subst (λ k. m.spent fresh.number k ≡ false) generation
                      fresh.never_given),
                  subst (λ k. fresh.spent k g ≡ true) (sym is) (subst (λ k. fresh.spent fresh.number k ≡ true)
                      generation fresh.given),
                  subst (λ k. k < 2 ^ 64) (sym is) fresh.number_fits,
                  subst (λ k. k < 2 ^ 64) generation fresh.generation_fits,
                )
            | false ↦ λ e.
                inl (lived-as (time_of ctx.moment) m (with_object m number wider) wide n g
                (record { object = l.object; lives = sym (other n e) ∙ l.lives; generation_is = l.generation_is }))
          ] refl

      -- the new number had no object
      touches : TouchesOnce (time_of ctx.moment) m new
      touches n was is at there =
          elim (n == fresh.number) as (λ b. (n == fresh.number) ≡ b
          → (is ≡ was) ⊎ (is.changed ≡ touch was.changed (time_of ctx.moment))) [
            | true ↦ λ e. (let none : get m.objects n ≡ None = ap (get m.objects)
                ((unsigned_Decides n fresh.number).0 e) ∙ fresh.free in cc)
            | false ↦ λ e. touches-continued (time_of ctx.moment) m (with_object m number wider) wide n was is at
                (sym (other n e) ∙ there)
          ] refl

      cookies : KeepsCookies m new
      cookies n was is at there =
          elim (n == fresh.number) as (λ b. (n == fresh.number) ≡ b
          → KeepsEntries (entries_of was.content) (entries_of is.content)) [
            | true ↦ λ e. (let none : get m.objects n ≡ None = ap (get m.objects)
                ((unsigned_Decides n fresh.number).0 e) ∙ fresh.free in cc)
            | false ↦ λ e. cookies-continued (time_of ctx.moment) m (with_object m number wider) wide n was is at
                (sym (other n e) ∙ there)
          ] refl

      gives : GivesOnce m new
      gives = record { kept = fresh.kept; handles = handles }

      makes : WellFormed m → MakesEntry m new number fresh.number directory wider o name
      makes w = record {
        entries = entries;
        last = last;
        lives = lives;
        content = content;
        absent = none;
        free = fresh.free;
        objects = refl;
        wider_content = refl;
        wider_export = refl;
        wider_generation = refl;
        made_export = refl;
        made_entries = plain.entries;
        made_cookies = plain.cookies;
        given = fresh.given;
        spent = fresh.kept;
        keeps = record { exports = refl; last = refl };
      }

      locks : LocksFollow m new
      locks = locks-on m new.objects fresh.spent
          (put-new m.objects (insert m.objects number wider)
          (put-directory m.objects m.objects (λ n file. file) number directory wider entries last lives content)
          fresh.number o fresh.free)

      formed : WellFormed m → WellFormed new
      formed w =
          well_formed-made m new number fresh.number directory wider o name (makes w) w
          (beside-follows m new
          (texts-put (with_object m number wider) fresh.number o
          (texts-continued (time_of ctx.moment) m (with_object m number wider) wide w.texts) text)
          locks refl w)

      counts : WellFormed m → Counts (time_of ctx.moment) m new
      counts w = record {
        kinds = λ n was is at there. elim (n == fresh.number) as
            (λ b. (n == fresh.number) ≡ b → is_directory is.content ≡ is_directory was.content) [
              | true ↦ λ e. (let none : get m.objects n ≡ None = ap (get m.objects)
                  ((unsigned_Decides n fresh.number).0 e) ∙ fresh.free in cc)
              | false ↦ λ e. kinds-continued (time_of ctx.moment) m (with_object m number wider) wide n was is at
                  (sym (other n e) ∙ there)
            ] refl;
        names = λ n was is at there. inl
            (names_of-kept m new number fresh.number directory wider o name (makes w) w n was at);
      }

      made-follows : Follows (time_of ctx.moment) m new
      made-follows = record {
        gives = gives;
        touches = touches;
        cookies = cookies;
        formed = formed;
        counts = counts;
        locks = locks;
        exports = record { exports = refl; last = refl };
        mounts = refl;
        bounds = λ h. h;
      }

  new-follows : (name : List ℕ) (wanted : Wanted) (number : ℕ) (directory : Living) (entries : List Entry) (last : ℕ)
      → get m.objects number ≡ Some directory → directory.content ≡ Directory entries last
      → find (λ (x : Entry). same_bytes x.name name) entries ≡ None → Plain wanted
      → IfOk (make_new m ctx name wanted number directory entries last) EndFollows
  new-follows name wanted number directory entries last lives content none plain =
      chained-is EndFollows (kind_checked ctx (links_of m number directory.content) wanted.content) _ (λ x0 e0.
      chained-is EndFollows (given_attributes ctx wanted.attributes) _ (λ x1 e1.
      chained-is EndFollows (holding (nat_lt (last + 1) (2 ^ 64)) status.NoSpace) _ (λ x2 e2.
      made-follows name wanted number directory entries last lives content none plain
      (text-within (links_of m number directory.content) wanted.content x0 e0))))

  pub make-follows : (place : DirOp) (wanted : Result Wanted NfsStatus)
      (there : ℕ → Option Living → Result (Made × State) NfsStatus) → IfOk wanted Plain
      → ((number : ℕ) → IfOk (there number (get m.objects number)) (λ e. Follows (time_of ctx.moment) m e.1)) →
      IfOk (make_plan m ctx place wanted there) EndFollows
  make-follows place wanted there plain found =
      chained-is EndFollows (object_of (resolve m ctx place.directory)) _ (λ directory at.
      chained-is EndFollows (entries_in directory.object.content) _ (λ entries is.
      chained-is EndFollows (plain_name_checked status.Exists status.Exists place.name) _ (λ x1 e1.
      chained-is EndFollows wanted _ (λ what e2.
      chained-is EndFollows (changeable m.exports directory.object) _ (λ x3 e3.
      chained-is EndFollows (permitted ctx directory.object ToChange) _ (λ x4 e4.
      under what (of-ok Plain wanted what e2 plain) directory.number directory.object entries.list entries.last_cookie
      (resolved-lives m ctx place.directory directory at) (is-directory directory.object.content entries is)
      (entry_of entries.list place.name) refl))))))
    where
      under : (what : Wanted) → Plain what → (number : ℕ) (directory : Living) (entries : List Entry) (last : ℕ)
          → get m.objects number ≡ Some directory → directory.content ≡ Directory entries last
          → (e : Option Entry) → entry_of entries place.name ≡ e
          → IfOk (elim e as (λ (_ : Option Entry). Result (End m) NfsStatus) [
            | Some e ↦ known (there e.number (get m.objects e.number))
            | None ↦ make_new m ctx place.name what
                number directory entries last
          ]) EndFollows
      under what plain number directory entries last lives content (Some e) is = known-holds EndFollows
          (there e.number (get m.objects e.number)) (found e.number)
      under what plain number directory entries last lives content None is = new-follows place.name what number
          directory entries last lives content is plain

  -- CREATE of what is there
  over-alters : (how : CreateHow) (file : Living) (r : Result (List ℕ) NfsStatus) → bytes_in file.content ≡ r
      → IfOk (create_over ctx how file r) (λ after. IfSome after (Alters (time_of ctx.moment) file))
  over-alters how file (Err e) is = tt
  over-alters (Guarded a) file (Ok bytes) is = tt
  over-alters (Exclusive verifier) file (Ok bytes) is =
      elim (elim file.verifier as (λ (_ : Option (List ℕ)). Bool) [
        | None ↦ false
        | Some kept ↦ same_bytes kept
            verifier.bytes
      ]) as (λ b. IfOk (cond b (Ok None) (Err status.Exists))
      (λ after. IfSome after (Alters (time_of ctx.moment) file))) [ true ↦ tt | false ↦ tt ]
  over-alters (Unchecked a) file (Ok bytes) is = sized a.size
    where
      sized : (size : Option ℕ)
          → IfOk (elim size as (λ (_ : Option ℕ). Result (Option Living) NfsStatus) [
            | None ↦ Ok None
            | Some size ↦ permitted ctx file ToWrite >>= λ _. holding (nat_le size size_limit)
                status.FileTooBig >>= λ _. Ok
                (Some (with_content file (time_of ctx.moment) (Regular (resized bytes size))))
          ]) (λ after. IfSome after (Alters (time_of ctx.moment) file))
      sized None = tt
      sized (Some size) =
          let P : Option Living → Type 0 = λ (after : Option Living). IfSome after (Alters (time_of ctx.moment) file) in
          chained-is P (permitted ctx file ToWrite) _
          (λ x1 e1. chained-is P (holding (nat_le size size_limit) status.FileTooBig) _
          (λ x2 e2. alters-regular file (time_of ctx.moment) (resized bytes size)
          (is-regular file.content bytes is)))

  pub existing-follows : (how : CreateHow) (number : ℕ) (o : Option Living) → get m.objects number ≡ o → IfOk
      (create_existing m ctx how number o) (λ e. Follows (time_of ctx.moment) m e.1)
  existing-follows how number None at = tt
  existing-follows how number (Some o) at =
      chained-is (λ (e : Made × State). Follows (time_of ctx.moment) m e.1)
      (create_over ctx how o (bytes_in o.content)) _ (λ after is.
      follows-replaced (time_of ctx.moment) m number o after at
      (of-ok (λ (after : Option Living). IfSome after (Alters (time_of ctx.moment) o))
      (create_over ctx how o (bytes_in o.content)) after is (over-alters how o (bytes_in o.content) refl)))

  pub file-plain : (how : CreateHow) → Plain (wanted_file how)
  file-plain how = record {
    entries = refl;
    cookies = λ k c. (let no : is_directory (wanted_file how).content ≡ true = ap is_directory c
        in cc);
  }
