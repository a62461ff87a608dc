-- What remains in a map page of a file goes, and nothing changes that counts.
use Rattle.std.proofs.Common.{◌≡◌, ◌≢◌, ◌-◌, ◌*◌, ◌/◌, ◌≤◌, ◌==◌, ◌&&◌, ◌++◌, ℕ, true, false, Bool, cond, not, List}
use Rattle.std.proofs.Common.{[]}
use Rattle.std.proofs.Common.{Option, Some, None, inl, inr, refl, sym, ◌∙◌, ap, subst, arith, option_map, take}
use Rattle.std.proofs.Common.{IsSome, Result, Ok, Err}
use Rattle.std.proofs.lemmas.Bool.{cases_eq}
use Rattle.std.specs.Prelude.{MatchResult}
use Rattle.nfs_machine.specs.Attributes.{type_of}
use Rattle.nfs_machine.specs.Data.{written}
use Rattle.nfs_machine.specs.Times.{time_of}
use Rattle.nfs_machine.specs.declared.context.Ctx.{Ctx}
use Rattle.nfs_objects.proofs.FileStoreLemmas.{stands-but}
use Rattle.nfs_objects.proofs.PromiseLemmas.{turns-both}
use Rattle.nfs_objects.proofs.SeenLemmas.{is_addr-refl, known-stands, writes-append, written-append}
use Rattle.nfs_objects.proofs.StandsInExportLemmas.{inode-stands}
use Rattle.nfs_objects.proofs.TurnsLemmas.{refiled}
use Rattle.nfs_objects.specs.Bits.{has}
use Rattle.nfs_objects.specs.Calls.{addresses_of, blocks_at, maps_at}
use Rattle.nfs_objects.specs.Drafts.{MayGive}
use Rattle.nfs_objects.specs.FileMaps.{FileMapValue, IsContent, block_size}
use Rattle.nfs_objects.specs.Fits.{Fits}
use Rattle.nfs_objects.specs.Knows.{Turns}
use Rattle.nfs_objects.specs.Stands.{StoreMeaning, Represents, bytes_at, content_of, entries_at, exports_of, filed_in}
use Rattle.nfs_objects.specs.Stands.{inode_in}
use Rattle.nfs_objects.specs.Stands.{map_in, stored_in}
use Rattle.nfs_objects.specs.Store.{Store, with_writes}
use Rattle.nfs_objects.specs.Values.{DraftValue, known_at, with_written}
use Rattle.nfs_objects.specs.declared.address.Addr.TheVariants as addresses
use Rattle.nfs_objects.specs.declared.change.Missing.{Missing}
use Rattle.nfs_objects.specs.declared.object.Content.TheVariants as contents
use Rattle.nfs_objects.specs.declared.object.Inode.{Inode}
use Rattle.nfs_objects.specs.declared.object.Object.{Object}
use Rattle.nfs_objects.specs.declared.object.Object.TheVariants as objects
use Rattle.nfs_inodes.proofs.FilePutLemmas.{file-bare}
use Rattle.nfs_inodes.proofs.PutObjectLemmas.{inode-known, known-inode}
use Rattle.nfs_inodes.proofs.ReadBlocksLemmas.{content-there, filed-stored}
use Rattle.nfs_inodes.proofs.ShownKindLemmas.{puts-kind}
use Rattle.nfs_inodes.proofs.StandsLemmas.{shows-export}
use Rattle.nfs_inodes.proofs.WishesLemmas.{not-same, same-number}
use Rattle.nfs_inodes.specs.Kinds.{HasFile, KeepsKinds, kind_of}
use Rattle.nfs_inodes.specs.Known.{HasInode}
use Rattle.nfs_inodes.proofs.ReaderHaltLemmas.{stops-before}
use Rattle.nfs_inodes.specs.Blocks.{written_from}
use Rattle.nfs_inodes.specs.Makes.{bytes_changed}
use Rattle.nfs_inodes.specs.Remains.{Clears, ClearsPage, IsCounted, IsCutIn}
use Rattle.nfs_inodes.specs.Stops.{StopsAt, counted_at, group_at}

-- where nothing is changed, and the page has no remains
pub clears-none : (d : DraftValue) (n page : ℕ) → IsCounted d n page → ClearsPage d d n page
clears-none d n page cleared = record {
  turns = record {
    ctx = refl;
    view = refl;
    modes = refl;
    messages = refl;
    turns = λ s k fits stands. stands;
  };
  kinds = λ q. refl;
  counted = refl;
  cleared = cleared;
  stays = λ p was. was;
}

-- the inode of a file that is known at a number is one
same-file : (d : DraftValue) (n : ℕ) (i j : Inode) → known_at d (addresses.Inode n) ≡ Some (Some (objects.Inode i)) →
    known_at d (addresses.Inode n) ≡ Some (Some (objects.Inode j)) → i ≡ j
same-file d n i j one other = (let e : Some (Some (objects.Inode i)) ≡ Some (Some (objects.Inode j)) = sym one ∙ other
    in cc)

same-map : (a b : FileMapValue) → contents.Regular a ≡ contents.Regular b → a ≡ b
same-map a b e = cc

-- which remains a file has that is known
pub file-counted : (d : DraftValue) (n page : ℕ) (i : Inode) (map : FileMapValue) → HasFile d n i map →
    has map.remains page ≡ false → IsCounted d n page
file-counted d n page i map file off j m other =
    let same : i ≡ j = same-file d n i j (known-inode d n i file.inode) (known-inode d n j other.inode) in
    let one : map ≡ m = same-map map m (sym file.content ∙ ap (λ (x : Inode). x.content) same ∙ other.content) in
    subst (λ (x : FileMapValue). has x.remains page ≡ false) one off

module _ (d laid new : DraftValue) (n page : ℕ) (i j : Inode) (map left : FileMapValue) (file : HasFile d n i map)
    (cut : IsCutIn d laid n page 0 left.pages) (sized : left.size ≡ map.size)
    (was : has map.remains page ≡ true)
    (less : (p : ℕ) → has left.remains p ≡ (has map.remains p && not (page == p)))
    (is : record i { content = contents.Regular left } ≡ j)
    (put : new ≡ with_written laid (addresses.Inode n) (Some (objects.Inode j))) where
  abbrev made : Inode
  made = record i { content = contents.Regular left }

  abbrev after : DraftValue
  after = with_written laid (addresses.Inode n) (Some (objects.Inode made))

  new-is : new ≡ after
  new-is = put ∙ ap (λ (x : Inode). with_written laid (addresses.Inode n) (Some (objects.Inode x))) (sym is)

  and_true : (b : Bool) → (b && true) ≡ b
  and_true true = refl
  and_true false = refl

  and_false : (b : Bool) → (b && false) ≡ false
  and_false true = refl
  and_false false = refl

  -- the page has none left, and the others have what they had
  here-left : has left.remains page ≡ false
  here-left = less page ∙ ap (λ b. has map.remains page && not b) (same-number page) ∙ and_false (has map.remains page)

  there-left : (p : ℕ) → p ≢ page → has left.remains p ≡ has map.remains p
  there-left p apart = less p ∙ ap (λ b. has map.remains p && not b) (not-same page p (λ e. apart (sym e)))
      ∙ and_true (has map.remains p)

  module _ (s : Store) (k : StoreMeaning) (fits : Fits d.view s) (stands : Represents (with_writes s d.writes) k) where
    abbrev old-at : ℕ → Option Object
    old-at b = (with_writes s d.writes).at (addresses.Block n b)

    abbrev new-at : ℕ → Option Object
    new-at b = (with_writes s laid.writes).at (addresses.Block n b)

    filed-same : (b : ℕ) → filed_in map b (old-at b) ≡ filed_in left b (new-at b)
    filed-same b = elim (cases_eq (b / 512) page) [
      | inl row ↦
          let none : 0 - b * block_size ≡ 0 = omega arith in
          let gone : stored_in (new-at b) ≡ [] =
          cut.blocks s k b fits stands row (omega arith) ∙ ap (λ m. take m (stored_in (old-at b))) none in
          ap (λ t. cond t [] (stored_in (old-at b))) (ap (has map.remains) row ∙ was)
          ∙ sym (filed-stored left b (new-at b) (ap (has left.remains) row ∙ here-left) ∙ gone)
      | inr apart ↦
          ap (filed_in map b) (sym (cut.others s b (inl apart)))
          ∙ ap (λ t. cond t [] (stored_in (new-at b))) (sym (there-left (b / 512) apart))
    ]

    content : IsContent left.size (λ b. filed_in left b (new-at b)) (bytes_at k.state n)
    content = subst (λ z. IsContent z (λ b. filed_in left b (new-at b)) (bytes_at k.state n)) (sym sized)
        (subst (λ (f : ℕ → List ℕ). IsContent map.size f (bytes_at k.state n)) (λ p b. filed-same b p)
        (content-there d n map (record {
          inode = i;
          stands = file.inode;
          content = ap map_in file.content;
        }) s k fits stands))

    cleared-stands : Represents (with_writes s after.writes) k
    cleared-stands =
        let t : Store = with_writes s laid.writes in
        let stood : (with_writes s d.writes).at (addresses.Inode n) ≡ Some (objects.Inode i) =
        known-stands d s (addresses.Inode n) (Some (objects.Inode i)) fits (known-inode d n i file.inode) in
        subst (λ (x : Store). Represents x k)
        (sym (writes-append laid.writes s (addresses.Inode n) (Some (objects.Inode made))))
        (refiled t k n i map left (cut.lays.lays s k (stands-but n (with_writes s d.writes) k stands))
        (cut.lays.inodes s n ∙ stood) file.content sized (shows-export d n i file.inode s k fits stands)
        (cut.maps s k fits stands) content
        (file-bare (with_writes s d.writes) t k n i map (cut.lays.entries s) stood file.content stands.directories
        (entries_at k.state n)))

  -- what is known of kinds, before the inode is put
  laid-inode : HasInode laid n (Some i)
  laid-inode = record {
    exports = file.inode.exports;
    living = record {
      object = file.inode.living.object;
      known = cut.exports ∙ file.inode.living.known;
      is = file.inode.living.is;
    };
    object = file.inode.object;
    known = cut.inodes n ∙ file.inode.known;
    is = file.inode.is;
  }

  laid-kinds : KeepsKinds d laid
  laid-kinds q = λ p. option_map kind_of (elim (cut.exports p) [
    | None ↦ None
    | Some exports ↦ elim (cut.inodes q p) [ None ↦ None | Some object ↦ inode_in (exports_of exports) object ]
  ])

  put-kinds : KeepsKinds laid after
  put-kinds = puts-kind laid n i made laid-inode refl (sym (ap (λ c. type_of (content_of c)) file.content))

  -- and then
  put-known : known_at after (addresses.Inode n) ≡ Some (Some (objects.Inode made))
  put-known = written-append laid.writes _ (addresses.Inode n) (Some (objects.Inode made)) (addresses.Inode n)
      ∙ ap (λ t. cond t (Some (Some (objects.Inode made))) (known_at laid (addresses.Inode n)))
      (is_addr-refl (addresses.Inode n))

  put-inode : HasInode after n (Some made)
  put-inode = record {
    exports = laid-inode.exports;
    living = record {
      object = laid-inode.living.object;
      known = written-append laid.writes _ (addresses.Inode n) (Some (objects.Inode made)) addresses.Exports
          ∙ laid-inode.living.known;
      is = laid-inode.living.is;
    };
    object = Some (objects.Inode made);
    known = put-known;
    is = sym (ap (λ b. cond {A = Option Inode} b (Some made) None)
        (inode-stands laid-inode.exports laid-inode.object i (sym laid-inode.is)).lives);
  }

  counted-same : counted_at after n ≡ counted_at d n
  counted-same = (λ p. addresses_of (cut.lays.view p) n ++ group_at n (inode-known after n (Some made) put-inode p))
      ∙ ap (λ o. addresses_of d.view n ++ group_at n o)
      (sym (inode-known d n (Some i) file.inode))

  pub clears-page : ClearsPage d new n page
  clears-page = subst (λ (x : DraftValue). ClearsPage d x n page) (sym new-is) (record {
    turns = record {
      ctx = cut.lays.ctx;
      view = cut.lays.view;
      modes = cut.lays.modes;
      messages = cut.lays.messages;
      turns = cleared-stands;
    };
    kinds = λ q. put-kinds q ∙ laid-kinds q;
    counted = counted-same;
    cleared = file-counted after n page made left (record { inode = put-inode; content = refl }) here-left;
    stays = λ p before. file-counted after n p made left (record { inode = put-inode; content = refl })
        (elim (cases_eq p page) [
          | inl same ↦ ap (has left.remains) same ∙ here-left
          | inr apart ↦ there-left p apart ∙ before i map file
        ]);
  })

-- two pages, one after the other
pub clears-both : (old mid new : DraftValue) (n first last : ℕ) → ClearsPage old mid n first
    → ClearsPage mid new n last →
    Clears old new n first last
clears-both old mid new n first last one other = record {
  turns = turns-both old mid new (λ k. k) (λ k. k) one.turns other.turns;
  kinds = λ q. other.kinds q ∙ one.kinds q;
  counted = other.counted ∙ one.counted;
  cleared = record { front = other.stays first one.cleared; back = other.cleared };
}

pub clears-result : {A : Type 0} (old mid new : DraftValue) (n first last : ℕ) (r : Result A Missing) →
    ClearsPage old mid n first →
    MatchResult r (λ x. ClearsPage mid new n last) (StopsAt mid (addresses_of mid.view n)) →
    MatchResult r (λ x. Clears old new n first last) (StopsAt old (addresses_of old.view n))
clears-result old mid new n first last (Ok x) one other = clears-both old mid new n first last one other
clears-result old mid new n first last (Err halt) one stops =
    stops-before old mid (λ k. k) (λ view. addresses_of view n) halt one.turns stops

-- bytes are written once no remains are where they go
pub written-after : {A : Type 0} (old mid new : DraftValue) (n first last offset : ℕ) (bytes : List ℕ)
    (r : Result A Missing) → Clears old mid n first last →
    MatchResult r (λ x. Turns mid new (bytes_changed (time_of mid.ctx.moment) n (λ b. written b offset bytes)))
    (StopsAt mid (written_from mid n offset)) →
    MatchResult r (λ x. Turns old new (bytes_changed (time_of old.ctx.moment) n (λ b. written b offset bytes)))
    (StopsAt old (written_from old n offset))
written-after old mid new n first last offset bytes (Ok x) clears turns =
    subst (λ (ctx : Ctx). Turns old new (bytes_changed (time_of ctx.moment) n (λ b. written b offset bytes)))
    clears.turns.ctx
    (turns-both old mid new (λ k. k) (bytes_changed (time_of mid.ctx.moment) n (λ b. written b offset bytes))
    clears.turns turns)
written-after old mid new n first last offset bytes (Err halt) clears stops =
    stops-before old mid (λ k. k) (λ view. written_from old n offset) halt clears.turns
    (subst (λ named. StopsAt mid (named ++ blocks_at n offset ++ maps_at n offset) halt) clears.counted stops)

-- what is known of the inode still, and which generation may be put
pub laid-knows : (d laid : DraftValue) (n : ℕ) (i : Inode) → HasInode d n (Some i) →
    known_at laid (addresses.Inode n) ≡ known_at d (addresses.Inode n) → IsSome (known_at laid (addresses.Inode n))
laid-knows d laid n i has laid-is = subst (λ x. IsSome x) (sym (laid-is ∙ known-inode d n i has)) refl

pub laid-gives : (d laid : DraftValue) (n : ℕ) (i : Inode) (generation : ℕ) → HasInode d n (Some i) →
    known_at laid (addresses.Inode n) ≡ known_at d (addresses.Inode n) → generation ≡ i.generation →
    MayGive laid n generation
laid-gives d laid n i generation has laid-is is = inl (i, laid-is ∙ known-inode d n i has, sym is)
