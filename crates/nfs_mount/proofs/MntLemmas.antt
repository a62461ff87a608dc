-- What MNT of a path comes to in every state that a draft may stand for, and that its answer is a step.
use Rattle.std.proofs.Common.{◌≡◌, ℕ, Bool, true, false, cond, List, [], ◌∷◌, ◌++◌, Some, None, Result, Ok}
use Rattle.std.proofs.Common.{Err, inl, inr, refl, sym, ◌∙◌, ap, subst}
use Rattle.std.specs.FinMap.{get}
use Rattle.side_wire.specs.declared.mount.MountCall.TheVariants as mount
use Rattle.side_wire.specs.declared.mount.MountReply.TheVariants as replies
use Rattle.side_wire.specs.declared.mount.MountStatus.{MountStatus}
use Rattle.side_wire.specs.declared.mount.MountStatus.TheVariants.{Access}
use Rattle.side_wire.specs.declared.mount.lists.MountBody.{MountBody}
use Rattle.nfs_machine.proofs.ExportedLemmas.{export-all}
use Rattle.nfs_machine.specs.Exports.{LivingExport}
use Rattle.nfs_machine.specs.MountSteps.{MountStep, NoExport, handle_at, is_mounted, newest, path_fault, walk}
use Rattle.nfs_machine.specs.MountSteps.{with_mount}
use Rattle.nfs_machine.specs.Paths.{parts}
use Rattle.nfs_machine.specs.State.{Socket}
use Rattle.nfs_machine.specs.WellFormed.{AllApart, HasRoot, WellFormed}
use Rattle.nfs_machine.specs.declared.calls.Call.TheVariants as calls
use Rattle.nfs_machine.specs.declared.calls.Reply.TheVariants as answers
use Rattle.nfs_objects.proofs.StandsInExportLemmas.{object-stands}
use Rattle.nfs_objects.proofs.PromiseLemmas.{promised, promised-unchanged, turns-none}
use Rattle.nfs_objects.proofs.TurnsLemmas.{mounts-turns}
use Rattle.nfs_objects.specs.Asks.{IsThere}
use Rattle.nfs_objects.specs.Edits.{with_mounts}
use Rattle.nfs_objects.specs.Knows.{Knows, Possible, Turns}
use Rattle.nfs_objects.specs.MountTables.{mounted}
use Rattle.nfs_objects.specs.Promise.{Given, Held, IsPromised}
use Rattle.nfs_objects.specs.Sound.{Sound}
use Rattle.nfs_objects.specs.Stands.{StoreMeaning, Represents}
use Rattle.nfs_objects.specs.Store.{Store, with_writes}
use Rattle.nfs_objects.specs.Values.{DraftValue, done_value, with_written}
use Rattle.nfs_objects.specs.declared.address.Addr.TheVariants as addresses
use Rattle.nfs_objects.specs.declared.change.Missing.{Missing}
use Rattle.nfs_objects.specs.declared.object.Object.TheVariants as objects
use Rattle.nfs_inodes.specs.Known.{shell, target}
use Rattle.nfs_inodes.specs.declared.found.Known.{Known}
use Rattle.nfs_mount.specs.Choices.{IsChosen}
use Rattle.nfs_mount.specs.Changes.{AddsMount}
use Rattle.nfs_mount.specs.Targets.{Finds, IsTarget, walk_end}
use Rattle.nfs_mount.specs.declared.choice.Choice.{Choice}

-- ---- the directory that the path names
module _ (d : DraftValue) (path : List ℕ) where
  pub faulty : (e : MountStatus) → path_fault path ≡ Some e → Finds d (IsTarget d.ctx path) (Ok (Err e))
  faulty e fault = λ s k w formed. (inl fault, refl)

  module _ (exports : List LivingExport) (known : Knows d (λ k. k.state.exports ≡ exports))
      (sane : path_fault path ≡ None) where
    pub not-exported : (AllApart exports → NoExport exports d.ctx.host (parts path))
        → Finds d (IsTarget d.ctx path) (Ok (Err Access))
    not-exported none = λ s k w formed.
        let here : NoExport k.state.exports d.ctx.host (parts path) =
        subst (λ es. AllApart es → NoExport es d.ctx.host (parts path)) (sym (known s k w)) none formed.exports.apart in
        (inr (inl (sane, here, refl)), refl)

    module _ (choice : Choice) (chosen : AllApart exports → IsChosen exports d.ctx.host (parts path) choice) where
      chosen-in : (s : Store) (k : StoreMeaning) → Possible d s k → WellFormed k.state →
          IsChosen k.state.exports d.ctx.host (parts path) choice
      chosen-in s k w formed =
          subst (λ es. AllApart es → IsChosen es d.ctx.host (parts path) choice) (sym (known s k w)) chosen
          formed.exports.apart

      -- the root of an export lives, so it stands in each store
      pub root-lives : d.writes ≡ [] → IsThere d.view (addresses.Inode choice.root)
      root-lives none s k fits stands sound formed =
          let w : Possible d s k = record {
            fits = fits;
            stands = subst (λ ws. Represents (with_writes s ws) k) (sym none) stands;
            sound = sound;
          } in
          let c = chosen-in s k w formed in
          let r = export-all (HasRoot k.state) k.state.exports c.0 c.1.matches.export formed.exports.rooted
          c.1.matches.stands in
          object-stands s k choice.root r.root stands (ap (get k.state.objects) (sym c.2) ∙ r.lives)

      pub walked : (r : Result (Result Known MountStatus) Missing) →
          Finds d (λ found m. walk (get m.objects) choice.root choice.rest ≡ walk_end m found) r
          → Finds d (IsTarget d.ctx path) r
      walked (Err halt) walks = walks
      walked (Ok (Ok x)) walks = λ s k w formed.
          let c = chosen-in s k w formed in (
            sane,
            c.0,
            choice.rest,
            c.1,
            sym (walks s k w formed) ∙ ap (λ n. walk (get k.state.objects) n choice.rest) (sym c.2),
          )
      walked (Ok (Err e)) walks = λ s k w formed.
          let c = chosen-in s k w formed in (
            inr (inr (
              sane,
              c.0,
              choice.rest,
              c.1,
              sym (walks s k w formed) ∙ ap (λ n. walk (get k.state.objects) n choice.rest) (sym c.2),
            )),
            refl,
          )

-- ---- the mount
module _ (d : DraftValue) (path : List ℕ) (mounts : List MountBody)
    (known : Knows d (λ k. k.state.mounts ≡ mounts)) where
  -- with_mount goes by whether the pair is listed
  after : (b : Bool) → is_mounted mounts (mounted d.ctx.host path) ≡ b → (s : Store) (k : StoreMeaning)
      → Possible d s k →
      with_mount k.state (mounted d.ctx.host path) ≡
      cond b k.state (record k.state { mounts = newest (mounts ++ mounted d.ctx.host path ∷ []) })
  after b is s k w =
      ap (λ l. cond (is_mounted l (mounted d.ctx.host path)) k.state
      (record k.state { mounts = newest (l ++ mounted d.ctx.host path ∷ []) })) (known s k w)
      ∙ ap (λ x. cond x k.state (record k.state { mounts = newest (mounts ++ mounted d.ctx.host path ∷ []) })) is

  pub listed-adds : is_mounted mounts (mounted d.ctx.host path) ≡ true → AddsMount d d path
  listed-adds listed = record {
    op = λ k. k;
    turns = turns-none d;
    changes = λ s k w. ap (λ m. record k { state = m }) (sym (after true listed s k w));
  }

  pub new-adds : is_mounted mounts (mounted d.ctx.host path) ≡ false → (new : DraftValue) →
      Turns d new (λ k. with_mounts k (newest (mounts ++ mounted d.ctx.host path ∷ []))) → AddsMount d new path
  new-adds other new turns = record {
    op = λ k. with_mounts k (newest (mounts ++ mounted d.ctx.host path ∷ []));
    turns = turns;
    changes = λ s k w. ap (λ m. record k { state = m }) (sym (after false other s k w));
  }

  pub table-adds : is_mounted mounts (mounted d.ctx.host path) ≡ false → (table : List MountBody) →
      table ≡ newest (mounts ++ mounted d.ctx.host path ∷ []) → (new : DraftValue) →
      new ≡ with_written d addresses.Mounts (Some (objects.Mounts table)) → AddsMount d new path
  table-adds other table made new is =
      new-adds other new (subst (λ l. Turns d new (λ k. with_mounts k l)) made
      (subst (λ (n : DraftValue). Turns d n (λ k. with_mounts k table)) (sym is) (mounts-turns d table)))

-- other mounts change neither links nor parents, nor what objects use
pub mounts-sound : (k : StoreMeaning) (mounts : List MountBody) → Sound k → Sound (with_mounts k mounts)
mounts-sound k mounts sound = record {
  links = sound.links;
  parents = λ n o lives is.
      let p = sound.parents n o lives is in
      record { directory = p.directory; lives = p.lives; named_in = p.named_in };
  usage = sound.usage;
}

mounted-sound : (k : StoreMeaning) (m : MountBody) → Sound k → Sound (record k { state = with_mount k.state m })
mounted-sound k m sound =
    elim (is_mounted k.state.mounts m) as
    (λ b. Sound (record k { state = cond b k.state (record k.state { mounts = newest (k.state.mounts ++ m ∷ []) }) })) [
      | true ↦ sound
      | false ↦ mounts-sound k (newest (k.state.mounts ++ m ∷ [])) sound
    ]

-- ---- the answer
module _ (d : DraftValue) (none : d.writes ≡ []) (quiet : d.messages ≡ []) where
  module _ (path : List ℕ) where
    abbrev pub AnswersWith : DraftValue → Result (List ℕ) MountStatus → Type 0
    AnswersWith new result = IsPromised (done_value (calls.Mount (mount.Mnt path)) d.ctx d.view
        (record { writes = new.writes; messages = new.messages; reply = answers.Mount (replies.Mnt result) }))

    pub refused-promised : (e : MountStatus) → Finds d (IsTarget d.ctx path) (Ok (Err e)) → Held d.view d.writes →
        Given d.view d.writes → AnswersWith d (Err e)
    unfolding MountStep
    refused-promised e refused held given =
        promised-unchanged d none quiet (calls.Mount (mount.Mnt path)) (answers.Mount (replies.Mnt (Err e))) held given
        (λ s k w formed. (Err e, refl, refl, refused s k w formed))

    pub mounted-promised : (new : DraftValue) (x : Known) (handle : List ℕ)
        → Finds d (IsTarget d.ctx path) (Ok (Ok x)) →
        AddsMount d new path → handle ≡ handle_at d.ctx x.number (shell x Socket) → Held new.view new.writes →
        Given new.view new.writes → AnswersWith new (Ok handle)
    unfolding MountStep
    mounted-promised new x handle named adds is held given =
        promised d new adds.op none quiet adds.turns (calls.Mount (mount.Mnt path))
        (answers.Mount (replies.Mnt (Ok handle))) held given
        (λ s k w formed. (
          subst Sound (sym (adds.changes s k w)) (mounted-sound k (mounted d.ctx.host path) w.sound),
          λ after. (
            Ok handle,
            refl,
            refl,
            (target k.state x, named s k w formed, is, ap (λ (y : StoreMeaning). y.state) (adds.changes s k w)),
          ),
        ))
