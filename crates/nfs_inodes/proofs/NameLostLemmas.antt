-- What a name that is taken away leaves: the machine's state without it, and what is kept stays sound.
use Rattle.std.proofs.Common.{◌≡◌, ◌==◌, ℕ, ◌+◌, ◌-◌, ◌≤◌, true, false, Bool, cond, nat_le}
use Rattle.std.proofs.Common.{List, [], Some, None, Result, Ok, Err, find, refl, sym, ◌∙◌, ap, subst}
use Rattle.std.proofs.Common.{arith}
use Rattle.std.proofs.lemmas.Bool.{leb-true}
use Rattle.std.specs.Cmp.{unsigned_Decides}
use Rattle.std.specs.FinMap.{FinMap, get, insert}
use Rattle.std.specs.List.{AllByRecursion, count_by}
use Rattle.std.specs.Ordering.{nat_cmp}
use Rattle.nfs_wire.specs.declared.attributes.Attributes.{Attributes}
use Rattle.nfs_wire.specs.declared.attributes.Time.{Time}
use Rattle.nfs_wire.specs.declared.status.NfsStatus.{NfsStatus}
use Rattle.nfs_machine.proofs.MapChangeLemmas.{apart, differs-insert, differs-other, differs-remove, differs-there}
use Rattle.nfs_machine.proofs.MapChangeLemmas.{find-all}
use Rattle.nfs_machine.proofs.MapChangeLemmas.{flipped, itself}
use Rattle.nfs_machine.proofs.ChecksPassedLemmas as facts
use Rattle.nfs_machine.proofs.LooseLemmas.{Loose, loosened, none_loose}
use Rattle.nfs_machine.proofs.MovedNameLemmas.{NamedEntry, named_as, with_name_taken}
use Rattle.nfs_machine.proofs.TakenNameLemmas.{IsNamedEntry, is-under, loose-mid, one-less, takes}
use Rattle.nfs_machine.proofs.WellFormedLemmas.{is_subdirectory, links-names}
use Rattle.nfs_machine.specs.Attributes.{entries_of, is_directory, is_living_directory, links_of, names_of, type_of}
use Rattle.nfs_machine.specs.Bytes.{same_bytes}
use Rattle.nfs_machine.specs.Checks.{DirectoryEntries, entries_in, entry_of}
use Rattle.nfs_machine.specs.RemoveSteps.{losing_name, object_under, without, without_object}
use Rattle.nfs_machine.specs.Shown.{touched, with_content, with_object}
use Rattle.nfs_machine.specs.State.{Content, Regular, Directory, Link, BlockDevice, CharacterDevice, Socket, Fifo}
use Rattle.nfs_machine.specs.State.{Entry, Living, State}
use Rattle.nfs_machine.specs.WellFormed.{Leads, WellFormed, is_root}
use Rattle.nfs_objects.proofs.UsageSumLemmas.{AllFit}
use Rattle.nfs_objects.specs.Edits.{edited, freed, set_at, with_living}
use Rattle.nfs_objects.specs.Sound.{Sound}
use Rattle.nfs_objects.specs.Stands.{StoreMeaning}
use Rattle.nfs_inodes.proofs.EditInodeLemmas.{edited-is}
use Rattle.nfs_inodes.proofs.KeptBesideLemmas.{changed-is}
use Rattle.nfs_inodes.proofs.SoundButLemmas.{SoundBut, freed-sound, insert-same, put-sound, sound-as, taken-but}
use Rattle.nfs_inodes.proofs.StandsLemmas.{kind-is}
use Rattle.nfs_inodes.specs.Known.{IsKnown, content_at, object_at, target}
use Rattle.nfs_inodes.specs.Makes.{link_lost, name_taken, removed, without_name}
use Rattle.nfs_inodes.specs.Removes.{is_directory_type, name_lost, subdirectory_lost}
use Rattle.nfs_inodes.specs.declared.found.Known.{Known}

-- ---- kinds
pub type-directory : (c : Content) → is_directory_type (type_of c) ≡ is_directory c
type-directory (Regular bytes) = refl
type-directory (Directory entries last) = refl
type-directory (Link text) = refl
type-directory (BlockDevice device) = refl
type-directory (CharacterDevice device) = refl
type-directory Socket = refl
type-directory Fifo = refl

-- ---- what is kept at two numbers
pub twice-set : (kept : ℕ → ℕ) (p n : ℕ) (f : ℕ → ℕ) → (n == p) ≡ false → (q : ℕ) →
    set_at (set_at kept p (f (kept p))) n 0 q ≡ set_at (set_at (set_at kept p (kept p)) n 0) p
    (f (set_at (set_at kept p (kept p)) n 0 p)) q
twice-set kept p n f other q =
    let own : set_at (set_at kept p (kept p)) n 0 p ≡ kept p = ap (λ b. cond b 0 (cond (p == p) (kept p) (kept p)))
    other ∙ ap (λ b. cond b (kept p) (kept p)) (itself p) in
    elim (p == q) as (λ b. (p == q) ≡ b → cond (n == q) 0 (cond b (f (kept p)) (kept q)) ≡ cond b
    (f (set_at (set_at kept p (kept p)) n 0 p)) (cond (n == q) 0 (cond b (kept p) (kept q)))) [
      | true ↦ λ e. ap (λ b. cond b 0 (f (kept p))) (subst (λ r. (n == r) ≡ false) ((unsigned_Decides p q).0 e)
          other) ∙ ap f (sym own)
      | false ↦ λ e. refl
    ] refl

-- ---- a name that leads to what contains none
module _ (k : StoreMeaning) (now : Time) (n : NamedEntry) (named : IsNamedEntry k.state n)
    (empty : entries_of n.object.content ≡ []) (formed : WellFormed k.state) (sound : Sound k) where
  abbrev m : State
  m = k.state

  abbrev narrower : Living
  narrower = with_content n.directory now (Directory (without n.entries n.name) n.last_cookie)

  abbrev left : StoreMeaning
  left = with_living k n.place narrower (k.links n.place) (k.parents n.place)

  l : Loose none_loose m
  l = loosened none_loose m formed

  leads : Leads m n.directory named.entry
  leads = find-all (Leads m n.directory) (λ (x : Entry). same_bytes x.name n.name) n.entries named.entry
      (subst (AllByRecursion (Leads m n.directory)) (ap entries_of named.content)
      (formed.names n.place n.directory named.lives).leads) named.found

  no-root : is_root m n.number ≡ false
  no-root = subst (λ q. is_root m q ≡ false) named.number leads.no_root

  -- the object is another than the directory, which has an entry
  pub elsewhere : (n.number == n.place) ≡ false
  elsewhere = apart n.number n.place (λ same.
      let both : Some n.object ≡ Some n.directory = sym named.object ∙ ap (get m.objects) same ∙ named.lives in
      let is : n.object ≡ n.directory = cc in
      let none : n.entries ≡ [] = sym (ap entries_of named.content)
      ∙ sym (ap (λ (o : Living). entries_of o.content) is) ∙ empty in
      let found : find (λ (x : Entry). same_bytes x.name n.name) [] ≡ Some named.entry =
      subst (λ es. find (λ (x : Entry). same_bytes x.name n.name) es ≡ Some named.entry) none named.found in
      cc)

  pub object-left : get left.state.objects n.number ≡ Some n.object
  object-left = differs-other m.objects left.state.objects n.place (Some narrower)
      (differs-insert m.objects n.place narrower) n.number elsewhere ∙ named.object

  -- whether the name leads to a directory
  subdirectory-is : is_subdirectory m named.entry ≡ is_directory n.object.content
  subdirectory-is = ap (λ q. is_living_directory (get m.objects q)) named.number
      ∙ ap is_living_directory named.object

  but-of : (links : ℕ) → links + cond (is_directory n.object.content) 1 0 ≡ k.links n.place →
      SoundBut n.number (with_living k n.place narrower links (k.parents n.place))
  but-of links less =
      subst (λ q. SoundBut q (with_living k n.place narrower links (k.parents n.place))) named.number
      (taken-but k n.place n.directory narrower n.name named.entry (takes m now n named) formed sound links
      (ap (λ b. links + cond b 1 0) subdirectory-is ∙ less))

  nameless : names_of m n.number ≤ 1 → names_of left.state n.number ≡ 0
  nameless few = omega (arith, few, one-less m now n named none_loose l)

  -- a directory goes, which has one name
  module _ (dir : is_directory n.object.content ≡ true) where
    pub one-name : names_of m n.number ≡ 1
    one-name = omega (
      arith,
      formed.named n.number n.object named.object no-root,
      formed.one_name n.number n.object
          named.object dir,
    )

    abbrev without_directory : StoreMeaning
    without_directory = subdirectory_lost n.place (removed n.number left)

    narrower-there : get (freed left n.number).state.objects n.place ≡ Some narrower
    narrower-there =
        differs-other left.state.objects (freed left n.number).state.objects n.number None
        (differs-remove left.state.objects n.number) n.place (flipped n.number n.place elsewhere)
        ∙ differs-there m.objects left.state.objects n.place (Some narrower)
        (differs-insert m.objects n.place narrower)

    lost-is : without_directory ≡ with_living (removed n.number left) n.place narrower
        ((freed left n.number).links n.place - 1) ((freed left n.number).parents n.place)
    lost-is = edited-is (λ o. o) (λ l. l - 1) (removed n.number left) n.place narrower narrower-there

    same-objects : insert (freed left n.number).state.objects n.place narrower ≡ (freed left n.number).state.objects
    same-objects = insert-same (freed left n.number).state.objects n.place narrower narrower-there

    freed-state : without_directory.state ≡ (freed left n.number).state
    freed-state =
        ap (λ (q : StoreMeaning). q.state) lost-is
        ∙ ap (λ (objects : FinMap nat_cmp Living). record (freed left n.number).state { objects = objects })
        same-objects

    pub directory-state : without_directory.state ≡ with_name_taken m now n
    directory-state =
        freed-state
        ∙ ap (λ names. losing_name left.state names now n.number n.object) (sym one-name)

    -- the directory's own count is one less
    counted : k.links n.place ≡ links_of m n.place n.directory.content
    counted = sound.links n.place n.directory named.lives

    abbrev fewer : ℕ
    fewer = k.links n.place - 1

    less : fewer + cond (is_directory n.object.content) 1 0 ≡ k.links n.place
    less =
        let one : cond {A = ℕ} (is_directory n.object.content) 1 0 ≡ 1 = ap (λ b. cond b 1 0) dir in
        let some : links_of m n.place n.directory.content ≡ 2 + count_by (is_subdirectory m) n.entries =
        ap (links_of m n.place) named.content in
        omega (arith, one, some, counted)

    abbrev settled : StoreMeaning
    settled = removed n.number (with_living k n.place narrower fewer (k.parents n.place))

    settled-sound : AllFit (freed left n.number).state → Sound settled
    settled-sound fit = freed-sound (with_living k n.place narrower fewer (k.parents n.place)) n.number n.object
        object-left
        empty
        (nameless (omega (arith, one-name))) no-root (loose-mid m now n named none_loose l) (but-of fewer less) fit

    pub directory-sound : AllFit without_directory.state → Sound without_directory
    directory-sound fit = subst Sound (sym lost-is)
        (sound-as settled (with_living (removed n.number left) n.place narrower
        ((freed left n.number).links n.place - 1) ((freed left n.number).parents n.place))
        (ap (λ (objects : FinMap nat_cmp Living). record (freed left n.number).state { objects = objects })
        (sym same-objects))
        (twice-set k.links n.place n.number (λ l. l - 1) elsewhere)
        (twice-set k.parents n.place n.number (λ p. p) elsewhere) (λ e g. refl)
        (settled-sound (subst AllFit freed-state fit)))

  -- anything else loses a link, and goes with its last
  module _ (plain : is_directory n.object.content ≡ false) (names : ℕ) (are : names ≡ names_of m n.number) where
    same : k.links n.place + cond (is_directory n.object.content) 1 0 ≡ k.links n.place
    same = (let none : cond {A = ℕ} (is_directory n.object.content) 1 0 ≡ 0 = ap (λ b. cond b 1 0) plain in
        omega (arith, none))

    but : SoundBut n.number left
    but = but-of (k.links n.place) same

    abbrev unlinked : StoreMeaning
    unlinked = edited left n.number (λ o. touched o now) (λ l. l - 1)

    unlinked-is : unlinked ≡ with_living left n.number (touched n.object now) (left.links n.number - 1)
        (left.parents n.number)
    unlinked-is = edited-is (λ o. touched o now) (λ l. l - 1) left n.number n.object object-left

    pub plain-state : (link_lost now n.number names left).state ≡ with_name_taken m now n
    plain-state =
        elim (nat_le names 1) as (λ b. (cond b (removed n.number left) unlinked).state ≡ cond b
        (without_object left.state n.number) (with_object left.state n.number (touched n.object now))) [
          | true ↦ refl
          | false ↦ ap (λ (q : StoreMeaning). q.state) unlinked-is
        ]
        ∙ ap (λ names. losing_name left.state names now n.number n.object) are

    -- its links are its names
    linked : left.links n.number - 1 ≡ links_of left.state n.number n.object.content
    linked =
        let here : left.links n.number ≡ k.links n.number = ap (λ b. cond b (k.links n.place) (k.links n.number))
        (flipped n.number n.place elsewhere) in
        let was : k.links n.number ≡ names_of m n.number = sound.links n.number n.object named.object
        ∙ links-names m n.number n.object.content plain in
        omega (
          arith,
          here,
          was,
          one-less m now n named none_loose l,
          links-names left.state n.number n.object.content
              plain,
        )

    unlinked-sound : Sound unlinked
    unlinked-sound = subst Sound (sym unlinked-is)
        (put-sound left n.number n.object (touched n.object now) object-left
        (record { export = refl; generation = refl; kind = refl; content = λ e. refl }) refl but
        (left.links n.number - 1) (left.parents n.number) linked
        (λ dir. (let no : true ≡ false = sym dir ∙ plain in cc)))

    pub plain-sound : AllFit (link_lost now n.number names left).state → Sound (link_lost now n.number names left)
    plain-sound fit = elim (nat_le names 1) as (λ b. nat_le names 1 ≡ b →
        AllFit (cond b (removed n.number left) unlinked).state → Sound (cond b (removed n.number left) unlinked)) [
          | true ↦ λ e fit. (let few = leb-true names 1 e in
              freed-sound left n.number n.object object-left empty (nameless (omega (arith, few, are))) no-root
              (loose-mid m now n named none_loose l) but fit)
          | false ↦ λ e fit. unlinked-sound
        ] refl fit

-- ---- the same of what is known
module _ (k : StoreMeaning) (place x : Known) (known : IsKnown k.state place) (there : IsKnown k.state x) (now : Time)
    (name : List ℕ) (entries : DirectoryEntries)
    (listed : entries_in (content_at k.state place.number) ≡ Ok entries)
    (under : object_under k.state (entry_of entries.list name) ≡ Some (target k.state x))
    (empty : entries_of (content_at k.state x.number) ≡ []) (formed : WellFormed k.state) (sound : Sound k) where
  abbrev named-entry : NamedEntry
  named-entry = named_as (target k.state place) entries name (target k.state x)

  is-named : IsNamedEntry k.state named-entry
  is-named = is-under k.state (target k.state place) entries name (target k.state x) known.lives
      (facts.is-directory (content_at k.state place.number) entries listed) under

  abbrev taken : StoreMeaning
  taken = with_living k place.number (with_content (object_at k.state place) now
      (Directory (without entries.list name) entries.last_cookie)) (k.links place.number) (k.parents place.number)

  taken-is : name_taken now place.number name k ≡ taken
  taken-is = changed-is k place.number (k.links place.number) (without_name now name) (object_at k.state place)
      (with_content (object_at k.state place) now (Directory (without entries.list name) entries.last_cookie))
      known.lives (ap (λ (r : Result DirectoryEntries NfsStatus). elim r [
        | Ok es ↦ Some (with_content (object_at k.state place) now (Directory (without es.list name) es.last_cookie))
        | Err e ↦ None
      ]) listed)

  abbrev lost : StoreMeaning → Bool → StoreMeaning
  lost from b = cond b (subdirectory_lost place.number (removed x.number from))
      (link_lost now x.number x.attributes.links from)

  lost-as : name_lost now place.number name x k ≡ lost taken (is_directory (content_at k.state x.number))
  lost-as = ap (λ q. lost q (is_directory_type x.attributes.kind)) taken-is
      ∙ ap (lost taken) (ap is_directory_type (sym (kind-is k.state x there))
      ∙ type-directory (content_at k.state x.number))

  names-known : is_directory (content_at k.state x.number) ≡ false → x.attributes.links ≡ names_of k.state
      x.number
  names-known plain = ap (λ (a : Attributes). a.links) there.shows ∙ links-names k.state x.number
      (content_at k.state x.number) plain

  pub lost-state : (name_lost now place.number name x k).state ≡ with_name_taken k.state now named-entry
  lost-state = ap (λ (q : StoreMeaning). q.state) lost-as
      ∙ elim (is_directory (content_at k.state x.number)) as (λ b. is_directory (content_at k.state x.number) ≡
      b → (lost taken b).state ≡ with_name_taken k.state now named-entry) [
        | true ↦ λ dir. directory-state k now named-entry is-named empty formed sound dir
        | false ↦ λ plain. plain-state k now named-entry is-named empty formed sound plain x.attributes.links
            (names-known plain)
      ] refl

  pub lost-sound : AllFit (name_lost now place.number name x k).state → Sound (name_lost now place.number name x k)
  lost-sound fit = subst Sound (sym lost-as)
      (elim (is_directory (content_at k.state x.number)) as (λ b. is_directory (content_at k.state x.number) ≡ b →
      AllFit (lost taken b).state → Sound (lost taken b)) [
        | true ↦ λ dir. directory-sound k now named-entry is-named empty formed sound dir
        | false ↦ λ plain. plain-sound k now named-entry is-named empty formed sound plain x.attributes.links
            (names-known plain)
      ] refl (subst (λ (q : StoreMeaning). AllFit q.state) lost-as fit))
