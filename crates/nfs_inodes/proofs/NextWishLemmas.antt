-- What a draft shows tells of what is wanted next: it stands in each store that the draft's view fits.
use Rattle.std.proofs.Common.{◌≡◌, ◌⊎◌, ℕ, true, List, [], Option, Some, None, IsSome, option_map, inl, inr, refl}
use Rattle.std.proofs.Common.{sym, ◌∙◌, ap, subst}
use Rattle.std.specs.Prelude.{IfSome, MatchOption}
use Rattle.std.specs.FinMap.{get}
use Rattle.nfs_machine.proofs.MapChangeLemmas.{find-all}
use Rattle.nfs_machine.specs.Attributes.{entries_of}
use Rattle.nfs_machine.specs.Bytes.{same_bytes}
use Rattle.nfs_machine.specs.Checks.{entry_of}
use Rattle.nfs_machine.specs.State.{Entry, Living, Socket}
use Rattle.nfs_machine.specs.WellFormed.{Leads}
use Rattle.nfs_objects.proofs.StandsInExportLemmas.{object-stands}
use Rattle.nfs_objects.proofs.SeenLemmas.{unknown-unseen}
use Rattle.nfs_objects.specs.Asks.{IsThere}
use Rattle.nfs_objects.specs.Directories.{IsPlace}
use Rattle.nfs_objects.specs.Knows.{Knows, Possible}
use Rattle.nfs_objects.specs.Modes.{held_mode, led_at}
use Rattle.nfs_objects.specs.PageRuns.{lists}
use Rattle.nfs_objects.specs.Stands.{entry_map_in}
use Rattle.nfs_objects.specs.Store.{with_writes}
use Rattle.nfs_objects.specs.Stands.{Represents}
use Rattle.nfs_objects.specs.Values.{DraftValue, known_at}
use Rattle.nfs_objects.specs.declared.address.Addr.{Addr}
use Rattle.nfs_objects.specs.declared.address.Addr.TheVariants as addresses
use Rattle.nfs_objects.specs.declared.directory.Directory.{Directory as Header}
use Rattle.nfs_objects.specs.declared.directory.Leaf.{Leaf}
use Rattle.nfs_objects.specs.declared.entry_map.NamePlace.{NamePlace}
use Rattle.nfs_objects.specs.declared.modes.Mode.{Mode}
use Rattle.nfs_objects.specs.declared.object.Content.TheVariants as contents
use Rattle.nfs_objects.specs.declared.object.Inode.{Inode}
use Rattle.nfs_inodes.proofs.DirectoryMapLemmas.{directory-lives}
use Rattle.nfs_inodes.proofs.UsageChangeLemmas.{stands-first}
use Rattle.nfs_inodes.proofs.NameLeadsLemmas.{entry-led, entry-there, under}
use Rattle.nfs_inodes.proofs.PageAsksLemmas.{page-lives}
use Rattle.nfs_inodes.proofs.TakenNameAsksLemmas.{place-lives}
use Rattle.nfs_inodes.specs.Entered.{DirectoryLives, ShowsLeaf}
use Rattle.nfs_inodes.specs.Gathers.{MayWish}
use Rattle.nfs_inodes.specs.Known.{HasInode, content_at}

-- ---- what a draft lacks
-- the wish for an address, where the draft lacks it
abbrev pub Lacking : DraftValue → Addr → Option (Addr × Mode) → Type 0
Lacking d a wish = MatchOption wish (IsSome (known_at d a))
    (λ w. (known_at d a ≡ None) × (w ≡ (a, held_mode d.modes d.view a)))

pub wished-there : (d : DraftValue) (a : Addr) → IsThere d.view a → (wish : Option (Addr × Mode)) → Lacking d a wish →
    IfSome wish (MayWish d)
wished-there d a there None lacking = tt
wished-there d a there (Some w) lacking = subst (MayWish d) (sym lacking.1)
    (record { unseen = unknown-unseen d a lacking.0; mode = refl; lives = there })

wished-beside : (d : DraftValue) (a : Addr) → IsSome (known_at d a) ⊎ IsThere d.view a → (wish : Option (Addr × Mode)) →
    Lacking d a wish → IfSome wish (MayWish d)
wished-beside d a (inr there) wish lacking = wished-there d a there wish lacking
wished-beside d a (inl known) None lacking = tt
wished-beside d a (inl known) (Some w) lacking = (let never = subst (λ o. IsSome o) lacking.0 known in cc)

-- ---- the part of a name
module _ (d : DraftValue) (n : ℕ) (i : Inode) (h : Header) (none : d.writes ≡ []) (has : HasInode d n (Some i))
    (is : i.content ≡ contents.Directory h) where
  pub shown-lives : DirectoryLives d n h.entries
  shown-lives = directory-lives d n i h.entries has (ap entry_map_in is) (stands-first d none)

  -- its pages
  pub pages-told : (p : ℕ) → lists h.entries.pages p ≡ true →
      IsSome (known_at d (addresses.Page n p)) ⊎ IsThere d.view (addresses.Page n p)
  pages-told = page-lives d n h.entries shown-lives

  pub part-wished : (name : List ℕ) (place : NamePlace) → IsPlace h.entries name (Some place) →
      (wish : Option (Addr × Mode)) → Lacking d (addresses.Part n place.bucket place.part) wish →
      IfSome wish (MayWish d)
  part-wished name place at wish lacking =
      wished-beside d (addresses.Part n place.bucket place.part)
      (place-lives d n h.entries name place at shown-lives) wish lacking

  -- what a name leads to there
  pub leaf-led : (name : List ℕ) (leaf : Option Leaf) → ShowsLeaf d n h.entries name leaf →
      IfSome leaf (λ (l : Leaf). led_at d.view n name ≡ Some l.number)
  leaf-led name None shows = tt
  leaf-led name (Some l) shows = entry-led d n name i h.entries none has (ap entry_map_in is) (Some l) shows

  under-lives : (name : List ℕ) (number : ℕ) → Knows d (λ k. under (content_at k.state n) name ≡ Some number) →
      IsThere d.view (addresses.Inode number)
  under-lives name number knows s k fits stands sound formed = by (get k.state.objects n) refl
    where
      w : Possible d s k
      w = record {
        fits = fits;
        stands = subst (λ ws. Represents (with_writes s ws) k) (sym none) stands;
        sound = sound;
      }

      found : (e : Option Entry) → option_map (λ (f : Entry). f.number) e ≡ Some number →
          (f : Entry) × (e ≡ Some f) × (f.number ≡ number)
      found None never = cc
      found (Some e) at = (e, refl, (let same : e.number ≡ number = cc in same))

      by : (o : Option Living) → get k.state.objects n ≡ o → IsSome (s.at (addresses.Inode number))
      by None none-there =
          let bare : content_at k.state n ≡ Socket =
          ap (λ (x : Option Living). elim x [ None ↦ Socket | Some o ↦ o.content ]) none-there in
          let never : None ≡ Some number = ap (λ c. under c name) (sym bare) ∙ knows s k w in
          cc
      by (Some o) there =
          let content : content_at k.state n ≡ o.content =
          ap (λ (x : Option Living). elim x [ None ↦ Socket | Some o ↦ o.content ]) there in
          let entry = found (entry_of (entries_of o.content) name)
          (ap (λ c. under c name) (sym content) ∙ knows s k w) in
          let leads = find-all (Leads k.state o) (λ (f : Entry). same_bytes f.name name) (entries_of o.content) entry.0
          (formed.names n o there).leads entry.1 in
          object-stands s k number leads.object stands (ap (get k.state.objects) (sym entry.2) ∙ leads.lives)

  pub leaf-there : (name : List ℕ) (leaf : Option Leaf) → ShowsLeaf d n h.entries name leaf →
      IfSome leaf (λ (l : Leaf). IsThere d.view (addresses.Inode l.number))
  leaf-there name None shows = tt
  leaf-there name (Some l) shows =
      under-lives name l.number (entry-there d n name i h.entries (Some l) has (ap entry_map_in is) shows)
