-- What a call that may make an object comes to, apart by whether something of what the machine chooses shows.
use Rattle.std.proofs.Common.{◌≡◌, ℕ, ◌+◌, ◌^◌, Bool, true, false, not, List, Option, Some, None}
use Rattle.std.proofs.Common.{Result, Ok, Err, nat_lt}
use Rattle.std.proofs.Common.{IfOk, ◌⊎◌, inl, inr, refl, sym, ◌∙◌, ap, subst}
use Rattle.std.specs.FinMap.{get}
use Rattle.nfs_wire.specs.declared.calls.DirOp.{DirOp}
use Rattle.nfs_wire.specs.declared.replies.Made.{Made}
use Rattle.nfs_wire.specs.declared.replies.MadeReply.{MadeReply}
use Rattle.nfs_wire.specs.declared.replies.NfsReply.{NfsReply}
use Rattle.nfs_wire.specs.declared.status.NfsStatus.{NfsStatus}
use Rattle.nfs_wire.specs.declared.status.NfsStatus.TheVariants as status
use Rattle.side_wire.specs.declared.message.Message.{Message}
use Rattle.nfs_machine.specs.Answers.{Ends}
use Rattle.nfs_machine.specs.Attributes.{links_of}
use Rattle.nfs_machine.specs.Checks.{◌>>=◌, changeable, entries_in, entry_of, holding, object_of, permitted}
use Rattle.nfs_machine.specs.Checks.{DirectoryEntries, plain_name_checked}
use Rattle.nfs_machine.specs.Making.{Choice, IsFresh, MakeStep, Wanted, given_attributes, kind_checked, made}
use Rattle.nfs_machine.specs.Making.{make_end, new_object, with_entry}
use Rattle.nfs_machine.specs.Permission.{ToChange}
use Rattle.nfs_machine.specs.Resolve.{Named, resolve}
use Rattle.nfs_machine.specs.Shown.{wcc, with_content, with_object}
use Rattle.nfs_machine.specs.State.{Entry, Living, State}
use Rattle.nfs_machine.specs.Times.{time_of}
use Rattle.nfs_machine.specs.declared.context.Ctx.{Ctx}

pub record Fresh (m : State) : Type 0 where
  pub choice : Choice
  pub open choice use *
  pub is_fresh : IsFresh m choice
  pub open is_fresh use *

-- the answer and the state after it, or these by the choice, which the state shows
pub data End (old : State) : Type 0 where
  Known : (answer : Made) (new : State) → End old
  Chosen : (makes : Choice → Made × State) (shows : (choice : Choice) → (makes choice).1.spent ≡ choice.spent)
      →
      End old

abbrev pub EndsAs : (old : State) → Result (End old) NfsStatus → Result (Made × State) NfsStatus → Type 0
EndsAs old comes_to end = elim comes_to [
  | Ok (Known answer new) ↦ end ≡ Ok (answer, new)
  | Ok (Chosen makes shows) ↦ (fresh : Fresh old) × (end ≡ Ok (makes fresh.choice))
  | Err e ↦ end ≡ Err e
]

abbrev pub known : {old : State} → Result (Made × State) NfsStatus → Result (End old) NfsStatus
known end = elim end [ Ok x ↦ Ok (Known x.0 x.1) | Err e ↦ Err e ]

-- a new object, under its name in the directory
abbrev pub make_new : (old : State) → Ctx → (name : List ℕ) → Wanted → ℕ → Living → List Entry → ℕ
    →
    Result (End old) NfsStatus
make_new old ctx name wanted number directory entries last_cookie = do
  _ ← kind_checked ctx (links_of old number directory.content) wanted.content
  _ ← given_attributes ctx wanted.attributes
  _ ← holding (nat_lt (last_cookie + 1) (2 ^ 64)) status.NoSpace
  Ok (Chosen (λ choice.
      let o = new_object ctx directory.export choice.generation wanted in
      let wider = with_content directory (time_of ctx.moment) (with_entry entries last_cookie name choice.number) in
      let new = record (with_object (with_object old number wider) choice.number o) { spent = choice.spent } in
      (made new ctx choice.number o, new)) (λ choice. refl))

abbrev pub make_plan : (old : State) → Ctx → DirOp → Result Wanted NfsStatus →
    (there : ℕ → Option Living → Result (Made × State) NfsStatus) → Result (End old) NfsStatus
make_plan old ctx place asked there = do
  directory ← object_of (resolve old ctx place.directory)
  entries ← entries_in directory.object.content
  _ ← plain_name_checked status.Exists status.Exists place.name
  wanted ← asked
  _ ← changeable old.exports directory.object
  _ ← permitted ctx directory.object ToChange
  elim (entry_of entries.list place.name) [
    | Some e ↦ known (there e.number (get old.objects e.number))
    | None ↦ make_new old ctx place.name wanted directory.number directory.object entries.list entries.last_cookie
  ]

-- with this choice
abbrev pub ended : {old : State} → Choice → Result (End old) NfsStatus → Result (Made × State) NfsStatus
ended choice comes_to = elim comes_to [
  | Ok (Known answer new) ↦ Ok (answer, new)
  | Ok (Chosen makes shows) ↦ Ok (makes choice)
  | Err e ↦ Err e
]

-- what holds of a known end
pub known-holds : {old : State} (P : End old → Type 0) (end : Result (Made × State) NfsStatus) →
    IfOk end (λ e. P (Known e.0 e.1)) → IfOk (known {old = old} end) P
known-holds P (Ok x) holds = holds
known-holds P (Err e) holds = tt

module _ (old : State) (choice : Choice) where
  of-known : (end : Result (Made × State) NfsStatus) → end ≡ ended {old = old} choice (known end)
  of-known (Ok x) = refl
  of-known (Err e) = refl

  of-chain : {A : Type 0} (r : Result A NfsStatus) (f : A → Result (End old) NfsStatus)
      (g : A → Result (Made × State) NfsStatus) → ((x : A) → g x ≡ ended choice (f x)) →
      (r >>= g) ≡ ended choice (r >>= f)
  of-chain (Ok x) f g same = same x
  of-chain (Err e) f g same = refl

  module _ (ctx : Ctx) (place : DirOp) (asked : Result Wanted NfsStatus)
      (there : ℕ → Option Living → Result (Made × State) NfsStatus) where
    abbrev under_name : Wanted → Named → DirectoryEntries → Option Entry → Result (Made × State)
        NfsStatus
    under_name wanted directory entries found = elim found [
      | Some e ↦ there e.number (get old.objects e.number)
      | None ↦ do
        _ ← kind_checked ctx (links_of old directory.number directory.object.content) wanted.content
        _ ← given_attributes ctx wanted.attributes
        _ ← holding (nat_lt (entries.last_cookie + 1) (2 ^ 64)) status.NoSpace
        let o = new_object ctx directory.object.export choice.generation wanted
        let wider = with_content directory.object (time_of ctx.moment)
            (with_entry entries.list entries.last_cookie place.name choice.number)
        let new = record (with_object (with_object old directory.number wider) choice.number o) { spent = choice.spent }
        Ok (made new ctx choice.number o, new)
    ]

    abbrev plan_under : Wanted → Named → DirectoryEntries → Option Entry → Result (End old) NfsStatus
    plan_under wanted directory entries found = elim found [
      | Some e ↦ known (there e.number (get old.objects e.number))
      | None ↦ make_new old ctx place.name wanted directory.number directory.object entries.list entries.last_cookie
    ]

    of-name : (wanted : Wanted) (directory : Named) (entries : DirectoryEntries) (found : Option Entry) →
        under_name wanted directory entries found ≡ ended choice (plan_under wanted directory entries found)
    of-name wanted directory entries (Some e) = of-known (there e.number (get old.objects e.number))
    of-name wanted directory entries None =
        of-chain (kind_checked ctx (links_of old directory.number directory.object.content) wanted.content) _ _ (λ x1.
        of-chain (given_attributes ctx wanted.attributes) _ _ (λ x2.
        of-chain (holding (nat_lt (entries.last_cookie + 1) (2 ^ 64)) status.NoSpace) _ _ (λ x3. refl)))

    is-ended : make_end old ctx choice place asked there ≡ ended choice (make_plan old ctx place asked there)
    is-ended =
        of-chain (object_of (resolve old ctx place.directory)) _ _ (λ directory.
        of-chain (entries_in directory.object.content) _ _ (λ entries.
        of-chain (plain_name_checked status.Exists status.Exists place.name) _ _ (λ x1.
        of-chain asked _ _ (λ wanted.
        of-chain (changeable old.exports directory.object) _ _ (λ x2.
        of-chain (permitted ctx directory.object ToChange) _ _ (λ x3.
        of-name wanted directory entries (entry_of entries.list place.name)))))))

-- the step, by that
pub record MakesAs (old : State) (ctx : Ctx) (place : DirOp) (asked : Result Wanted NfsStatus)
    (there : ℕ → Option Living → Result (Made × State) NfsStatus) (reply_of : MadeReply → NfsReply)
    (reply : NfsReply)
    (messages : List Message) (new : State) : Type 0 where
  pub end : Result (Made × State) NfsStatus
  pub ends : EndsAs old (make_plan old ctx place asked there) end
  pub answers : Ends old
      (λ after result. reply_of (record { directory = wcc after (resolve old ctx place.directory); result = result }))
      end reply messages new

never-other : (b : Bool) → b ≡ not b → ⊥
never-other true e = cc
never-other false e = cc

module _ (old : State) where
  -- all choices come to one end only where none shows
  ends-fresh : (plan : Result (End old) NfsStatus) (choice : Choice) →
      IsFresh old choice ⊎ ((other : Choice) → ended other plan ≡ ended choice plan) →
      EndsAs old plan (ended choice plan)
  ends-fresh (Err e) choice fresh = refl
  ends-fresh (Ok (Known answer new)) choice fresh = refl
  ends-fresh (Ok (Chosen makes shows)) choice (inl is) = (record { choice = choice; is_fresh = is }, refl)
  ends-fresh (Ok (Chosen makes shows)) choice (inr same) =
      let other : Choice = record choice { spent = λ n g. not (choice.spent n g) } in
      let all : (other : Choice) → Ok (makes other) ≡ Ok (makes choice) = same in
      let both = all other in
      let one : makes other ≡ makes choice = cc in
      let spent : not (choice.spent 0 0) ≡ choice.spent 0 0 =
      ap (λ f. f 0 0) (sym (shows other) ∙ ap (λ (x : Made × State). x.1.spent) one ∙ shows choice) in
      absurd (never-other (choice.spent 0 0) (sym spent))

  fresh-ends : (plan : Result (End old) NfsStatus) (end : Result (Made × State) NfsStatus) → EndsAs old plan end →
      (choice : Choice) × (IsFresh old choice ⊎ ((other : Choice) → ended other plan ≡ ended choice plan)) ×
      (ended choice plan ≡ end)
  fresh-ends (Err e) end is = (
    record { number = 0; generation = 0; spent = λ n g. false },
    inr (λ other. refl),
    sym
        is,
  )
  fresh-ends (Ok (Known answer new)) end is =
      (record { number = 0; generation = 0; spent = λ n g. false }, inr (λ other. refl), sym is)
  fresh-ends (Ok (Chosen makes shows)) end (fresh, is) = (fresh.choice, inl fresh.is_fresh, sym is)

module _ {old : State} {ctx : Ctx} {place : DirOp} {asked : Result Wanted NfsStatus}
    {there : ℕ → Option Living → Result (Made × State) NfsStatus} {reply_of : MadeReply → NfsReply}
    {reply : NfsReply}
    {messages : List Message} {new : State} where
  pub makes-as : MakeStep old ctx place asked there reply_of reply messages new →
      MakesAs old ctx place asked there reply_of reply messages new
  makes-as step =
      let is : (choice : Choice) → make_end old ctx choice place asked there ≡ ended choice
      (make_plan old ctx place asked there) =
      λ choice. is-ended old choice ctx place asked there in
      record {
        end = make_end old ctx step.choice place asked there;
        ends = subst (EndsAs old (make_plan old ctx place asked there)) (sym (is step.choice))
            (ends-fresh old (make_plan old ctx place asked there) step.choice
            (elim step.fresh [
              | inl fresh ↦ inl fresh
              | inr same ↦ inr (λ other. sym (is other) ∙ same other ∙ is step.choice)
            ]));
        answers = step.answers;
      }

  pub makes-so : MakesAs old ctx place asked there reply_of reply messages new →
      MakeStep old ctx place asked there reply_of reply messages new
  makes-so by =
      let is : (choice : Choice) → make_end old ctx choice place asked there ≡ ended choice
      (make_plan old ctx place asked there) =
      λ choice. is-ended old choice ctx place asked there in
      let so = fresh-ends old (make_plan old ctx place asked there) by.end by.ends in
      record {
        choice = so.0;
        fresh = elim so.1 [
          | inl fresh ↦ inl fresh
          | inr same ↦ inr (λ other. is other ∙ same other ∙ sym (is so.0))
        ];
        answers = subst
            (λ end. Ends old (λ after result. reply_of
            (record { directory = wcc after (resolve old ctx place.directory); result = result })) end reply messages
            new)
            (sym (is so.0 ∙ so.2)) by.answers;
      }
