-- What CREATE does with a file that is there is an end of the machine's.
use Rattle.std.proofs.Common.{◌≡◌, ℕ, List, Option, Some, None, unwrap_or, Result, Ok, Err, refl}
use Rattle.std.proofs.Common.{sym, ◌∙◌, ap}
use Rattle.nfs_wire.specs.declared.attributes.Time.{Time}
use Rattle.nfs_wire.specs.declared.calls.CreateHow.{CreateHow}
use Rattle.nfs_wire.specs.declared.replies.Made.{Made}
use Rattle.nfs_wire.specs.declared.status.NfsStatus.{NfsStatus}
use Rattle.nfs_wire.specs.declared.status.NfsStatus.TheVariants as status
use Rattle.std.specs.FinMap.{get}
use Rattle.nfs_machine.specs.Checks.{bytes_in}
use Rattle.nfs_machine.specs.Data.{resized}
use Rattle.nfs_machine.specs.Making.{made}
use Rattle.nfs_machine.specs.NameSteps.{create_existing, create_over}
use Rattle.nfs_machine.specs.Shown.{replaced, with_object}
use Rattle.nfs_machine.specs.State.{Content, Living, State}
use Rattle.nfs_machine.specs.declared.context.Ctx.{Ctx}
use Rattle.nfs_objects.proofs.PromiseLemmas.{possible-after}
use Rattle.nfs_objects.proofs.UsageSumLemmas.{AllFit, turned-fit}
use Rattle.nfs_objects.specs.Knows.{Does, Knows, Possible, Turns}
use Rattle.nfs_objects.specs.Sound.{Sound}
use Rattle.nfs_objects.specs.Stands.{StoreMeaning}
use Rattle.nfs_objects.specs.Store.{Store}
use Rattle.nfs_objects.specs.Values.{DraftValue}
use Rattle.nfs_inodes.proofs.KeptBesideLemmas.{bytes-is, bytes-sound}
use Rattle.nfs_inodes.proofs.StandsLemmas.{kind-is}
use Rattle.nfs_inodes.specs.Known.{ChecksRegular, IsKnown, IsObject, bytes_of, content_at, object_at, shell}
use Rattle.nfs_inodes.specs.Makes.{size_set}
use Rattle.nfs_inodes.specs.declared.found.Known.{Known}
use Rattle.nfs_inodes.specs.declared.kinds.KnownFile.{KnownFile}
use Rattle.nfs_names.proofs.LookupLemmas.{lives-at}
use Rattle.nfs_names.proofs.MakeObjectLemmas.{get-here, now_of, told_of}
use Rattle.nfs_names.specs.Creates.{IsOverEnd, file_over, sized_file}
use Rattle.nfs_names.specs.Making.{MakeEnd, made_at}

made-over : (m : State) (ctx : Ctx) (n : ℕ) (o : Living) → get m.objects n ≡ Some o →
    (after : Option Living) → made_at (replaced m n after) ctx n ≡
    made (replaced m n after) ctx n (unwrap_or after o)
made-over m ctx n o lives None = ap (told_of m ctx n) lives
made-over m ctx n o lives (Some p) = ap (told_of (with_object m n p) ctx n) (get-here m n p)

sized-state : (k : StoreMeaning) (x : Known) (now : Time) (bytes : List ℕ) → IsKnown k.state x →
    bytes_in (content_at k.state x.number) ≡ Ok bytes → (size : Option ℕ) →
    (size_set now x.number size k).state ≡ replaced k.state x.number (sized_file now (object_at k.state x) bytes size)
sized-state k x now bytes is regular None = refl
sized-state k x now bytes is regular (Some s) = ap (λ (q : StoreMeaning). q.state)
    (bytes-is k x now (λ old. resized old s) bytes is regular)

sized-sound : (k : StoreMeaning) (n : ℕ) (now : Time) (size : Option ℕ) → Sound k
    → AllFit (size_set now n size k).state →
    Sound (size_set now n size k)
sized-sound k n now None sound fit = sound
sized-sound k n now (Some s) sound fit = bytes-sound k n now (λ old. resized old s) sound fit

module _ (d : DraftValue) (how : CreateHow) (number : ℕ) where
  pub nothing-over : Knows d (λ k. IsObject k.state number None) → (s : Store) (k : StoreMeaning) → Possible d s k →
      IsOverEnd d.ctx how number k.state (Err status.Exists)
  nothing-over none s k w = ap (create_existing k.state d.ctx how number) (none s k w)

  module _ (x : Known) (there : Knows d (λ k. IsObject k.state number (Some x))) where
    -- the file after it
    abbrev existing : State → Result (Option Living) NfsStatus → MakeEnd
    existing m over = elim over [
      | Ok p ↦ Ok (made (replaced m number p) d.ctx number (unwrap_or p (object_at m x)), replaced m number p)
      | Err e ↦ Err e
    ]

    lives : (s : Store) (k : StoreMeaning) → Possible d s k → get k.state.objects number ≡ Some (object_at k.state x)
    lives s k w = lives-at k.state number x (there s k w)

    existing-is : (s : Store) (k : StoreMeaning) → Possible d s k → (bytes : Result (List ℕ) NfsStatus) →
        bytes_in (content_at k.state x.number) ≡ bytes → create_existing k.state d.ctx how number
        (get k.state.objects number) ≡ existing k.state (create_over d.ctx how (object_at k.state x) bytes)
    existing-is s k w bytes is = ap (create_existing k.state d.ctx how number) (lives s k w)
        ∙ ap (λ q. existing k.state (create_over d.ctx how (object_at k.state x) q)) is

    pub none-regular : (r : Result KnownFile NfsStatus) → ChecksRegular x r → ((f : KnownFile) → r ≡ Ok f → ⊥) →
        (s : Store) (k : StoreMeaning) → Possible d s k → IsOverEnd d.ctx how number k.state (Err status.Exists)
    none-regular (Ok file) checks other s k w = absurd (other file refl)
    none-regular (Err e) checks other s k w =
        existing-is s k w (Err e) (checks (content_at k.state x.number) (kind-is k.state x (there s k w).1))

    module _ (file : KnownFile) (checks : ChecksRegular x (Ok file)) (size : Result (Option ℕ) NfsStatus)
        (sizes : (content : Content) (bytes : List ℕ) → create_over d.ctx how (shell x content) (Ok bytes) ≡
        file_over (now_of d) (shell x content) bytes size) where
      abbrev bytes : State → List ℕ
      bytes m = bytes_of (content_at m x.number)

      regular : (s : Store) (k : StoreMeaning) → Possible d s k →
          bytes_in (content_at k.state x.number) ≡ Ok (bytes k.state)
      regular s k w = checks (content_at k.state x.number) (kind-is k.state x (there s k w).1)

      sized-end : (s : Store) (k : StoreMeaning) → Possible d s k → (given : Result (Option ℕ) NfsStatus) →
          size ≡ given → create_existing k.state d.ctx how number (get k.state.objects number) ≡
          existing k.state (file_over (now_of d) (object_at k.state x) (bytes k.state) given)
      sized-end s k w given is = existing-is s k w _ (regular s k w)
          ∙ ap (existing k.state) (sizes (content_at k.state x.number) (bytes k.state))
          ∙ ap (λ z. existing k.state (file_over (now_of d) (object_at k.state x) (bytes k.state) z)) is

      pub no-answer-over : (e : NfsStatus) → size ≡ Err e → (s : Store) (k : StoreMeaning) → Possible d s k →
          IsOverEnd d.ctx how number k.state (Err e)
      no-answer-over e is s k w = sized-end s k w (Err e) is

      module _ (new : DraftValue) (some : Option ℕ) (is : size ≡ Ok some)
          (turns : Turns d new (size_set (now_of d) x.number some))
          (told : Made) (tells : Knows new (λ k. told ≡ made_at k.state new.ctx number)) where
        abbrev over_state : State → State
        over_state m = replaced m number (sized_file (now_of d) (object_at m x) (bytes m) some)

        abbrev over_answer : State → Made
        over_answer m = made (over_state m) d.ctx number
            (unwrap_or (sized_file (now_of d) (object_at m x) (bytes m) some) (object_at m x))

        over-state-is : (s : Store) (k : StoreMeaning) → Possible d s k →
            over_state k.state ≡ (size_set (now_of d) x.number some k).state
        over-state-is s k w = sym (sized-state k x (now_of d) (bytes k.state) (there s k w).1 (regular s k w) some
            ∙ ap (λ n. replaced k.state n (sized_file (now_of d) (object_at k.state x) (bytes k.state) some))
            (there s k w).0)

        over-answer-is : (s : Store) (k : StoreMeaning) → Possible d s k → over_answer k.state ≡ told
        over-answer-is s k w =
            let sound = sized-sound k x.number (now_of d) some w.sound (turned-fit d new _ turns s k w) in
            sym (tells s (size_set (now_of d) x.number some k) (possible-after d new _ turns s k w sound)
            ∙ ap (λ c. made_at (size_set (now_of d) x.number some k).state c number) turns.ctx
            ∙ ap (λ m. made_at m d.ctx number) (sym (over-state-is s k w))
            ∙ made-over k.state d.ctx number (object_at k.state x) (lives s k w)
            (sized_file (now_of d) (object_at k.state x) (bytes k.state) some))

        pub over-does : Does d new (IsOverEnd d.ctx how number) (Ok told)
        over-does = record {
          op = size_set (now_of d) x.number some;
          turns = turns;
          sound = λ s k w formed. sized-sound k x.number (now_of d) some w.sound (turned-fit d new _ turns s k w);
          ends = λ s k w formed. sized-end s k w (Ok some) is
              ∙ ap (λ t. Ok (t, over_state k.state)) (over-answer-is s k w)
              ∙ ap (λ m. Ok (told, m)) (over-state-is s k w);
          stays = λ k. refl;
        }
