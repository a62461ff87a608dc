-- Where a name more may go, once others went.
use Rattle.std.proofs.Common.{◌≡◌, ◌⊎◌, ◌<◌, ◌≤◌, ℕ, ◌==◌, ◌++◌, true, cond, List, [], ◌∷◌, Option, Some}
use Rattle.std.proofs.Common.{None, IsSome, arith, inl, inr, not, refl, sym, ◌∙◌, ap, subst}
use Rattle.std.specs.Prelude.{is_some, nat_lt}
use Rattle.std.proofs.lemmas.Bool.{and_from, cases_eq, cases_lt, eq-eqb, lt-ltb, ltb-true}
use Rattle.nfs_objects.proofs.KnowsLemmas.{Covers, among-behind, among-front, covers-among, stops-wider}
use Rattle.nfs_objects.specs.Asks.{IsThere}
use Rattle.nfs_objects.specs.Attempt.{StopsCall}
use Rattle.nfs_objects.specs.Calls.{IsAmong, addresses_of, places_for}
use Rattle.nfs_objects.specs.Directories.{bucket_of, is_beside, width_in}
use Rattle.nfs_objects.specs.Stands.{header_in}
use Rattle.nfs_objects.specs.Values.{DraftValue, ViewValue, known_at}
use Rattle.nfs_objects.specs.declared.address.Addr.{Addr}
use Rattle.nfs_objects.specs.declared.address.Addr.TheVariants as addresses
use Rattle.nfs_objects.specs.declared.change.Missing.{Missing}
use Rattle.nfs_objects.specs.declared.directory.Directory.{Directory}
use Rattle.nfs_objects.specs.declared.entry_map.EntryMap.{EntryMap}
use Rattle.nfs_objects.specs.declared.object.Content.{Content}
use Rattle.nfs_objects.specs.declared.object.Inode.{Inode}
use Rattle.nfs_objects.specs.declared.object.Object.{Object}
use Rattle.nfs_inodes.proofs.PutObjectLemmas.{inode-known}
use Rattle.nfs_inodes.specs.Entered.{DirectoryLives, KeepsKnown, TellsLess, grown_at, lacked_of}
use Rattle.nfs_inodes.specs.Kinds.{HasDirectory}
use Rattle.nfs_inodes.specs.Stops.{StopsAt}

-- what is not known of some addresses is covered, where each that is not known is
pub covers-lacked : (d : DraftValue) (few named : List Addr) (view : ViewValue) →
    ((a : Addr) → IsAmong few a → known_at d a ≡ None → IsAmong named a ⊎ IsThere view a) →
    Covers named view (lacked_of d few)
covers-lacked d [] named view f = tt
covers-lacked d (b ∷ few) named view f =
    by (known_at d b) refl (covers-lacked d few named view (λ a among. f a (inr among)))
  where
    by : (o : Option (Option Object)) → known_at d b ≡ o → Covers named view (lacked_of d few) →
        Covers named view (cond (not (is_some o)) (b ∷ lacked_of d few) (lacked_of d few))
    by None unknown rest = (f b (inl refl) unknown, rest)
    by (Some o) known rest = rest

-- ---- widths
-- where a map tells of less, no bucket has more parts
pub less-width : (less more : EntryMap) → TellsLess less more → (bucket : ℕ) →
    width_in less.counts bucket ≤ width_in more.counts bucket
less-width less more fewer bucket = by (cases_lt (width_in more.counts bucket) (width_in less.counts bucket))
  where
    by : (width_in more.counts bucket < width_in less.counts bucket) ⊎
        (width_in less.counts bucket ≤ width_in more.counts bucket) →
        width_in less.counts bucket ≤ width_in more.counts bucket
    by (inr narrower) = narrower
    by (inl wider) =
        let width : ℕ = width_in more.counts bucket in
        let told = fewer 0 (addresses.Part 0 bucket width) (lt-ltb width (width_in less.counts bucket) wider) in
        (let no = ltb-true width width told in omega (arith, no))

-- the directory that gets a name may be asked for
pub directory-stops : (d : DraftValue) (n : ℕ) (name : List ℕ) (cookie : ℕ) (halt : Missing) →
    StopsAt d (addresses_of d.view n) halt → StopsAt d (grown_at d n name cookie) halt
directory-stops d n name cookie halt stops =
    stops-wider d.modes (addresses_of d.view n) (grown_at d n name cookie) 0 d.view halt
    (covers-among (addresses_of d.view n) (grown_at d n name cookie) d.view
    (among-front (addresses_of d.view n) _)) stops

module _ (d : DraftValue) (n : ℕ) (i : Inode) (h : Directory) (has : HasDirectory d n i h) (name : List ℕ) (cookie : ℕ)
  where
    grown : grown_at d n name cookie ≡ addresses_of d.view n ++ places_for h.entries n name cookie
    grown =
        ap (λ (o : Option Inode). addresses_of d.view n ++ places (header o)) (inode-known d n (Some i) has.inode)
        ∙ ap (λ (c : Content). addresses_of d.view n ++ places (header_in c)) has.content
      where
        header : Option Inode → Option Directory
        header o = elim o [ None ↦ None | Some j ↦ header_in j.content ]

        places : Option Directory → List Addr
        places o = elim o [ None ↦ [] | Some x ↦ places_for x.entries n name cookie ]

    among-grown : (a : Addr) → IsAmong (places_for h.entries n name cookie) a → IsAmong (grown_at d n name cookie) a
    among-grown a among = subst (λ l. IsAmong l a) (sym grown)
        (among-behind (addresses_of d.view n) (places_for h.entries n name cookie) a among)

    module _ (mid : DraftValue) (others : EntryMap) (same : mid.view ≡ d.view) (modes : mid.modes ≡ d.modes)
        (knows : KeepsKnown d mid) (less : TellsLess others h.entries) (lives : DirectoryLives d n h.entries) where
      -- where a name more goes by a map that tells of less
      covered : (a : Addr) → IsAmong (places_for others n name cookie) a → known_at mid a ≡ None →
          IsAmong (grown_at d n name cookie) a ⊎ IsThere d.view a
      covered a (inl page) unknown = inl (among-grown a (inl page))
      covered a (inr (inr none)) unknown = absurd none
      covered a (inr (inl part)) unknown =
          by (cases_eq (width_in others.counts (bucket_of name)) (width_in h.entries.counts (bucket_of name)))
        where
          width : ℕ
          width = width_in others.counts (bucket_of name)

          told : width < width_in h.entries.counts (bucket_of name) → is_beside h.entries n a ≡ true
          told narrower = subst (λ b. is_beside h.entries n b ≡ true) part
              (and_from (n == n) (nat_lt width (width_in h.entries.counts (bucket_of name))) (eq-eqb n n refl)
              (lt-ltb width (width_in h.entries.counts (bucket_of name)) narrower))

          never : (o : Option (Option Object)) → o ≡ None → IsSome o → ⊥
          never None none some = cc
          never (Some x) none some = cc

          by : (width ≡ width_in h.entries.counts (bucket_of name)) ⊎
              (width ≡ width_in h.entries.counts (bucket_of name) → ⊥) →
              IsAmong (grown_at d n name cookie) a ⊎ IsThere d.view a
          by (inl is) = inl (among-grown a (inr (inl (ap (λ w. addresses.Part n (bucket_of name) w) (sym is) ∙ part))))
          by (inr apart) =
              let narrower : width < width_in h.entries.counts (bucket_of name) =
              (let most = less-width others h.entries less (bucket_of name) in omega (arith, most, apart)) in
              elim (lives a (told narrower)) [
                | inl some ↦ absurd (never (known_at mid a) unknown (knows.known a some))
                | inr there ↦ inr there
              ]

      pub grown-stops : (halt : Missing) → StopsAt mid (lacked_of mid (places_for others n name cookie)) halt →
          StopsAt d (grown_at d n name cookie) halt
      grown-stops halt stops =
          stops-wider d.modes (lacked_of mid (places_for others n name cookie)) (grown_at d n name cookie) 0 d.view halt
          (covers-lacked mid (places_for others n name cookie) (grown_at d n name cookie) d.view covered)
          (subst (λ v. StopsCall d.modes (lacked_of mid (places_for others n name cookie)) 0 v halt) same
          (subst (λ m. StopsCall m (lacked_of mid (places_for others n name cookie)) 0 mid.view halt) modes stops))

-- ---- what goes
pub less-none : (m : EntryMap) → TellsLess m m
less-none m n a told = told

pub less-both : (a b c : EntryMap) → TellsLess a b → TellsLess b c → TellsLess a c
less-both a b c first second n x told = second n x (first n x told)
