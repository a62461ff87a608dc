-- What a handle names, as a procedure goes on from it.
use Rattle.std.proofs.Common.{◌≡◌, ◌==◌, ℕ, true, false, Bool, cond, ◌&&◌, List, Option, Some, None, Ok, Err}
use Rattle.std.proofs.Common.{option_map, refl, sym, ◌∙◌, ap, subst}
use Rattle.std.specs.FinMap.{get}
use Rattle.nfs_wire.specs.declared.status.NfsStatus.{NfsStatus}
use Rattle.nfs_wire.specs.declared.status.NfsStatus.TheVariants as status
use Rattle.nfs_machine.specs.Attributes.{attributes_of, is_directory}
use Rattle.nfs_machine.specs.Checks.{object_of}
use Rattle.nfs_machine.specs.Exports.{LivingExport, export_admits, export_at}
use Rattle.nfs_machine.specs.Handles.{handle_of}
use Rattle.nfs_machine.specs.Resolve.{Resolved, living_at, named, resolve}
use Rattle.nfs_machine.specs.Resolve as machine
use Rattle.nfs_machine.specs.Shown.{attributes_at, shown, wcc}
use Rattle.nfs_machine.specs.State.{Living, State}
use Rattle.nfs_machine.specs.WellFormed.{IsParent}
use Rattle.nfs_machine.specs.declared.context.Ctx.{Ctx}
use Rattle.nfs_machine.specs.declared.handle.Handle.{Handle}
use Rattle.nfs_objects.specs.Knows.{Knows, Possible}
use Rattle.nfs_objects.specs.Sound.{Sound}
use Rattle.nfs_objects.specs.Stands.{StoreMeaning}
use Rattle.nfs_objects.specs.Values.{DraftValue}
use Rattle.nfs_inodes.proofs.StandsLemmas.{weak-is}
use Rattle.nfs_inodes.specs.Known.{IsKnown, IsObject, Means, Names, NamesNothing, is_handle_of, object_at}
use Rattle.nfs_inodes.specs.declared.found.Known.{Known}

one-named : {q : Resolved} {n number : ℕ} {o p : Living} → q ≡ machine.Names n o → q ≡ machine.Names number p
    → (n ≡ number) × (o ≡ p)
one-named {n} {number} {o} {p} e f = let both : machine.Names _ _ ≡ machine.Names _ _ = sym e ∙ f in (cc, cc)

no-names : {q : Resolved} {n : ℕ} {o : Living} (e : NfsStatus) → object_of q ≡ Err e → q ≡ machine.Names n o → ⊥
no-names {n} {o} e refused names = let no : object_of (machine.Names n o) ≡ Err e = ap object_of (sym names)
    ∙ refused in cc

module _ (ctx : Ctx) (bytes : List ℕ) (k : StoreMeaning) where
  names-of : (x : Known) → Sound k → IsKnown k.state x
      → resolve k.state ctx bytes ≡ machine.Names x.number (object_at k.state x) → Names ctx bytes k x
  names-of x sound is resolves = record {
    known = is;
    names = ap object_of resolves;
    shows = ap (shown k.state) resolves ∙ ap (λ o. option_map (attributes_of k.state x.number) o) is.lives
        ∙ ap (λ a. Some a) (sym is.shows);
    shows_after = λ new. ap (shown new) resolves;
    wcc_after = λ new. ap (wcc new) resolves
        ∙ ap (λ w. record { before = Some w; after = attributes_at new x.number }) (weak-is k.state x is);
    parent = λ number o names dir. (let e = one-named resolves names in
        subst (λ n. IsParent k.state n (k.parents x.number)) e.0
        (sound.parents x.number (object_at k.state x) is.lives (ap (λ (y : Living). is_directory y.content) e.1
        ∙ dir)));
  }

  bad-of : resolve k.state ctx bytes ≡ machine.BadHandle → NamesNothing ctx bytes k status.BadHandle
  bad-of resolves = record {
    refused = ap object_of resolves;
    shows_after = λ new. ap (shown new) resolves;
    wcc_after = λ new. ap (wcc new) resolves;
    parent = λ parent number o names dir. absurd (no-names status.BadHandle (ap object_of resolves) names);
  }

  stale-of : resolve k.state ctx bytes ≡ machine.Stale → NamesNothing ctx bytes k status.Stale
  stale-of resolves = record {
    refused = ap object_of resolves;
    shows_after = λ new. ap (shown new) resolves;
    wcc_after = λ new. ap (wcc new) resolves;
    parent = λ parent number o names dir. absurd (no-names status.Stale (ap object_of resolves) names);
  }

module _ (d : DraftValue) (bytes : List ℕ) where
  pub bad-handle : handle_of bytes ≡ None → Knows d (Means d.ctx bytes (Err status.BadHandle))
  bad-handle is s k w = bad-of d.ctx bytes k (ap (named (get k.state.objects) k.state.exports d.ctx) is)

  module _ (h : Handle) (is : handle_of bytes ≡ Some h) where
    abbrev admitted : Ctx → List LivingExport → Bool
    admitted ctx exports = (h.start == ctx.start) && export_admits (export_at exports h.export) ctx.host

    -- what the handle resolves to where it may be used, and where not
    abbrev resolved : Bool → Option Living → Resolved
    resolved b o = cond b (living_at o h) machine.Stale

    resolves : (k : StoreMeaning) → resolve k.state d.ctx bytes ≡ resolved (admitted d.ctx k.state.exports)
        (get k.state.objects h.fileid)
    resolves k = ap (named (get k.state.objects) k.state.exports d.ctx) is

    stale-none : (b : Bool) → resolved b None ≡ machine.Stale
    stale-none true = refl
    stale-none false = refl

    pub nothing-there : Knows d (λ k. IsObject k.state h.fileid None) → Knows d (Means d.ctx bytes (Err status.Stale))
    nothing-there none s k w =
        stale-of d.ctx bytes k (resolves k ∙ ap (resolved (admitted d.ctx k.state.exports)) (none s k w)
        ∙ stale-none (admitted d.ctx k.state.exports))

    module _ (exports : List LivingExport) (listed : Knows d (λ k. k.state.exports ≡ exports)) (x : Known)
        (there : Knows d (λ k. IsObject k.state h.fileid (Some x))) where
      found : (s : _) (k : StoreMeaning) → Possible d s k
          → resolve k.state d.ctx bytes ≡ resolved (admitted d.ctx exports)
          (Some (object_at k.state x))
      found s k w =
          resolves k ∙ ap (λ es. resolved (admitted d.ctx es) (get k.state.objects h.fileid)) (listed s k w)
          ∙ ap (resolved (admitted d.ctx exports)) (ap (get k.state.objects) (sym (there s k w).0)
          ∙ ((there s k w).1).lives)

      both : (a b : Bool) (m : State) → (a && b) ≡ true
          → cond a (cond b (machine.Names h.fileid (object_at m x)) machine.Stale) machine.Stale ≡ machine.Names
          h.fileid (object_at m x)
      both true true m e = refl
      both true false m e = cc
      both false b m e = cc

      neither : (a b : Bool) (m : State) → (a && b) ≡ false
          → cond a (cond b (machine.Names h.fileid (object_at m x)) machine.Stale) machine.Stale ≡ machine.Stale
      neither true true m e = cc
      neither true false m e = refl
      neither false b m e = refl

      pub named-there : (admitted d.ctx exports && is_handle_of h x) ≡ true → Knows d (Means d.ctx bytes (Ok x))
      named-there passes s k w =
          names-of d.ctx bytes k x w.sound (there s k w).1
          (found s k w ∙ both (admitted d.ctx exports) (is_handle_of h x) k.state passes
          ∙ ap (λ n. machine.Names n (object_at k.state x)) (sym (there s k w).0))

      pub stale-there : (admitted d.ctx exports && is_handle_of h x) ≡ false
          → Knows d (Means d.ctx bytes (Err status.Stale))
      stale-there fails s k w = stale-of d.ctx bytes k (found s k w
          ∙ neither (admitted d.ctx exports) (is_handle_of h x) k.state fails)
