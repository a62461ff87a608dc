-- Objects that are counted anew: what that does to the store, and why it may be asked for.
use Rattle.std.proofs.Common.{◌≡◌, ◌==◌, ℕ, ◌&&◌, true, false, Bool, cond, List, [], ◌∷◌, Option}
use Rattle.std.proofs.Common.{Some, None, IsSome, IfSome, Result, Ok, Err, IfOk, option_map, inr, refl, sym}
use Rattle.std.proofs.Common.{◌∙◌, ap, subst}
use Rattle.std.proofs.lemmas.Bool.{and_parts}
use Rattle.std.specs.Cmp.{unsigned_Decides}
use Rattle.std.specs.FinMap.{get}
use Rattle.std.specs.Prelude.{OnOk}
use Rattle.nfs_wire.specs.declared.status.NfsStatus.{NfsStatus}
use Rattle.nfs_machine.specs.Attributes.{is_directory, links_of}
use Rattle.nfs_machine.specs.Handles.{handle_of}
use Rattle.nfs_machine.specs.State.{Living, State}
use Rattle.nfs_machine.specs.WellFormed.{IsParent, WellFormed}
use Rattle.nfs_machine.specs.declared.handle.Handle.{Handle}
use Rattle.nfs_objects.proofs.KnowsLemmas.{among-counted, covers-among, stops-wider}
use Rattle.nfs_objects.proofs.SeenLemmas.{written-append}
use Rattle.nfs_objects.proofs.UsageSumLemmas.{AllFit, counted-sums, stays-counted, usage-lives}
use Rattle.nfs_objects.proofs.TurnsLemmas.{same-turns, usage-turns}
use Rattle.nfs_objects.specs.Calls.{IsAmong, objects_at, usages_of}
use Rattle.nfs_objects.specs.Edits.{counted_anew, recounted}
use Rattle.nfs_objects.specs.Fits.{Fits}
use Rattle.nfs_objects.specs.Knows.{Possible, Turns}
use Rattle.nfs_objects.specs.Sound.{Sound}
use Rattle.nfs_objects.specs.Stands.{StoreMeaning, Represents, beside_at, living_of_inode}
use Rattle.nfs_objects.specs.Store.{Store, with_writes}
use Rattle.nfs_objects.specs.Sums.{group_of, in_export, no_usage, shares_of, stored_usage, usage_of}
use Rattle.nfs_objects.specs.Values.{DraftValue, ViewValue, known_at, with_written}
use Rattle.nfs_objects.specs.declared.address.Addr.{Addr}
use Rattle.nfs_objects.specs.declared.address.Addr.TheVariants as addresses
use Rattle.nfs_objects.specs.declared.object.Object.{Object}
use Rattle.nfs_objects.specs.declared.usage.Usage.{Usage}
use Rattle.nfs_inodes.proofs.StandsLemmas.{lives-there}
use Rattle.nfs_inodes.specs.Counts.{IsCount, KeepsInodes}
use Rattle.nfs_inodes.specs.Known.{is_handle_of}
use Rattle.nfs_objects.specs.declared.change.Missing.{Missing}
use Rattle.nfs_inodes.specs.Stops.{IsOfExport, StillStands, StopsAt, UsageLives, brought_by}
use Rattle.nfs_inodes.specs.declared.found.Known.{Known}

-- ---- shares
-- nothing has no share, of whatever export
pub no-share : (export e : ℕ) → no_usage ≡ in_export export no_usage e
no-share export e =
    elim (export == e) as (λ b. no_usage ≡ cond b no_usage no_usage) [ true ↦ refl | false ↦ refl ]

-- ---- results that are handed on
pub on-ok : {A E : Type 0} {P Q : Type 0} (r : Result A E) → (P → Q) → OnOk r P → OnOk r Q
on-ok (Ok x) f p = f p
on-ok (Err e) f p = tt

-- ---- writes of usages
keeps-inodes : (d : DraftValue) (export group : ℕ) (o : Option Object)
    → KeepsInodes d (with_written d (addresses.Usage export group) o)
keeps-inodes d export group o = record {
  inodes = λ n. written-append d.writes _ (addresses.Usage export group) o (addresses.Inode n);
  blocks = λ n i. written-append d.writes _ (addresses.Usage export group) o (addresses.Block n i);
  exports = written-append d.writes _ (addresses.Usage export group) o addresses.Exports;
}

pub put-keeps : (d new : DraftValue) (export group : ℕ) (o : Option Object)
    → new ≡ with_written d (addresses.Usage export group) o
    → KeepsInodes d new
put-keeps d new export group o is = subst (KeepsInodes d) (sym is) (keeps-inodes d export group o)

pub put-counts : (d new : DraftValue) (export number : ℕ) (u : Usage)
    → new ≡ with_written d (addresses.Usage export (group_of number)) (stored_usage u)
    → (before after : Usage) → IsCount d export number before after (Some u)
    → Turns d new (recounted number (in_export export before) (in_export export after))
put-counts d new export number u is before after count =
    let was = count.1 in
    subst (λ (x : DraftValue). Turns d x (recounted number (in_export export before) (in_export export after)))
    (ap (λ (v : Usage). with_written d (addresses.Usage export (group_of number)) (stored_usage v))
    (sym count.3) ∙ sym is)
    (usage-turns d export number before after was count.0 count.2)

pub none-counts : (d : DraftValue) (export number : ℕ) (before after : Usage)
    → IsCount d export number before after None
    → Turns d d (recounted number (in_export export before) (in_export export after))
none-counts d export number before after count = same-turns d export number before after count

-- what was read is known
pub count-known : (d : DraftValue) (export number : ℕ) (before after : Usage) (usage : Option Usage)
    → IsCount d export number before after usage
    → IfSome usage (λ u. IsSome (known_at d (addresses.Usage export (group_of number))))
count-known d export number before after None count = tt
count-known d export number before after (Some u) count = by (known_at d (addresses.Usage export (group_of number)))
    count.1 count.2
  where
    by : (o : Option (Option Object)) (was : Usage) → option_map usage_of o ≡ Some was → IsSome o
    by None was e = cc
    by (Some o) was e = refl

-- ---- what its group uses stands there where the object does
-- it lived there before, in the same export
pub record LivedIn (m : State) (n export : ℕ) : Type 0 where
  pub object : Living
  pub lives : get m.objects n ≡ Some object
  pub same : object.export ≡ export

-- with no write it stands for what the store does
pub stands-first : (d : DraftValue) → d.writes ≡ [] → StillStands d
stands-first d none s k fits stands = (k, subst (λ ws. Represents (with_writes s ws) k) (sym none) stands)

module _ (old d : DraftValue) (op : StoreMeaning → StoreMeaning) (turns : Turns old d op) where
  -- a store that stands for something does so still
  pub stands-on : StillStands old → StillStands d
  stands-on still s k fits stands =
      let before : Fits old.view s = subst (λ v. Fits v s) turns.view fits in
      let was = still s k before stands in
      (op was.0, turns.turns s was.0 before was.1)

  module _ (none : old.writes ≡ []) (n : ℕ) where
    pub counted-lives : ((s : Store) (k : StoreMeaning) → Possible old s k → WellFormed k.state → (o : Living) →
        get (op k).state.objects n ≡ Some o → LivedIn k.state n o.export) → UsageLives d n
    counted-lives lives = record {
      usage = λ i has s k fits stands sound formed.
          let before : Fits old.view s = subst (λ v. Fits v s) turns.view fits in
          let w : Possible old s k = record {
            fits = before;
            stands = subst (λ ws. Represents (with_writes s ws) k) (sym none) stands;
            sound = sound;
          } in
          let was = lives s k w formed (living_of_inode (beside_at (op k).state n) i)
          (lives-there d n (Some i) has s (op k) fits (turns.turns s k before w.stands)) in
          subst (λ e. IsSome (s.at (addresses.Usage e (group_of n)))) was.same
          (usage-lives s k n was.object stands sound was.lives);
      stands = stands-on (stands-first old none);
    }

-- with no write, what is known there lives there
pub usage-lives-first : (d : DraftValue) (n : ℕ) → d.writes ≡ [] → UsageLives d n
usage-lives-first d n none =
    counted-lives d d (λ k. k)
    (record { ctx = refl; view = refl; modes = refl; messages = refl; turns = λ s k fits stands. stands }) none n
    (λ s k w formed o at. record { object = o; lives = at; same = refl })

-- ---- who brings a handle names what the groups of its export use
pub brings-usage : (bytes : List ℕ) (h : Handle) (x : Known) (admitted : Bool) → handle_of bytes ≡ Some h
    → (admitted && is_handle_of h x) ≡ true
    → IsOfExport bytes x.export
brings-usage bytes h x admitted is passes =
    ap (option_map (λ (y : Handle). y.export)) is
    ∙ ap Some (sym ((unsigned_Decides x.export h.export).0 ((and_parts (x.generation == h.generation)
    (x.export == h.export) ((and_parts admitted (is_handle_of h x) passes).1)).1)))

-- the same of the handle that a call brings
pub brings-as : (handle bytes : List ℕ) (found : Result Known NfsStatus) (x : Known) → bytes ≡ handle
    → found ≡ Ok x
    → IfOk found (λ y. IsOfExport bytes y.export) → IsOfExport handle x.export
brings-as handle bytes found x same is brings =
    subst (λ h. IsOfExport h x.export) same
    (subst (λ f. IfOk f (λ (y : Known). IsOfExport bytes y.export)) is brings)

pub among-brought : (view : ViewValue) (handle : List ℕ) (export : ℕ) → IsOfExport handle export → (a : Addr) →
    IsAmong (usages_of export 64) a → IsAmong (brought_by view handle) a
among-brought view handle export of a among = inr (by (handle_of handle) refl of)
  where
    by : (o : Option Handle) → handle_of handle ≡ o → option_map (λ (h : Handle). h.export) o ≡ Some export →
        IsAmong (objects_at view (handle ∷ [])) a
    by None is e = cc
    by (Some h) is e =
        let same : h.export ≡ export = cc in
        among-counted view handle [] h is a (subst (λ x. IsAmong (usages_of x 64) a) (sym same) among)

-- so what all groups use may be asked for by who brings the handle
pub usage-brings : (d : DraftValue) (handle : List ℕ) (export : ℕ) (halt : Missing) → IsOfExport handle export
    → StopsAt d (usages_of export 64) halt → StopsAt d (brought_by d.view handle) halt
usage-brings d handle export halt of stops =
    stops-wider d.modes (usages_of export 64) (brought_by d.view handle) 0 d.view halt
    (covers-among (usages_of export 64) (brought_by d.view handle) d.view
    (among-brought d.view handle export of)) stops

-- ---- what every store stands for, by its parts
-- links and parents are right
pub record NamesSound (k : StoreMeaning) : Type 0 where
  pub links : (n : ℕ) (o : Living) → get k.state.objects n ≡ Some o → k.links n ≡ links_of k.state n o.content
  pub parents : (n : ℕ) (o : Living) → get k.state.objects n ≡ Some o → is_directory o.content ≡ true
      → IsParent k.state n (k.parents n)

pub names-sound : (k : StoreMeaning) → Sound k → NamesSound k
names-sound k sound = record { links = sound.links; parents = sound.parents }

-- one number has changed
module _ (k new : StoreMeaning) (n : ℕ)
    (others : (q : ℕ) → (n == q) ≡ false → get new.state.objects q ≡ get k.state.objects q)
    (same : new.usage ≡ k.usage) (sound : Sound k) (names : NamesSound new) where
  -- and is counted anew
  pub sound-counted : AllFit new.state → Sound (counted_anew n (get k.state.objects n) new)
  sound-counted fit = record {
    links = names.links;
    parents = names.parents;
    usage = counted-sums k new n others sound.usage (λ e g. ap (λ f. f e g) same) fit;
  }

  -- or has the share that it had
  pub sound-stays : ((e : ℕ) → shares_of (get new.state.objects n) e ≡ shares_of (get k.state.objects n) e)
      → Sound new
  sound-stays alike = record {
    links = names.links;
    parents = names.parents;
    usage = λ e g. ap (λ f. f e g) same ∙ sound.usage e g ∙ sym (stays-counted k new n others alike e g);
  }
