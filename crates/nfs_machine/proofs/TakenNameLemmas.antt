-- What REMOVE, RMDIR and LINK leave: handles are given once, and what is true of every state stays true.
use Rattle.std.proofs.Common.{◌≡◌, ◌==◌, ℕ, ◌+◌, ◌^◌, Bool, true, false, not, cond, List, []}
use Rattle.std.proofs.Common.{Some, None, Result, Ok, IfOk, find, nat_lt, refl, sym, ◌∙◌, ap, subst, arith}
use Rattle.std.proofs.Common.{Option, option_map, ◌⊎◌, inl, inr}
use Rattle.std.specs.Prelude.{is_none, ok_or}
use Rattle.std.specs.Cmp.{unsigned_Decides}
use Rattle.std.specs.FinMap.{get}
use Rattle.std.specs.List.{AllByRecursion}
use Rattle.std.proofs.lemmas.Bool.{not-true}
use Rattle.nfs_wire.specs.declared.attributes.Time.{Time}
use Rattle.nfs_wire.specs.declared.calls.LinkArguments.{LinkArguments}
use Rattle.nfs_wire.specs.declared.calls.DirOp.{DirOp}
use Rattle.nfs_wire.specs.declared.status.NfsStatus.{NfsStatus}
use Rattle.nfs_wire.specs.declared.status.NfsStatus.TheVariants as status
use Rattle.nfs_machine.specs.Attributes.{entries_of, is_directory, names_of, links_of}
use Rattle.nfs_machine.specs.Bytes.{same_bytes}
use Rattle.nfs_machine.specs.Checks.{
  DirectoryEntries,
  holding,
  object_of,
  entries_in,
  plain_name_checked,
  changeable,
  permitted,
  entry_of,
  link_limit,
}
use Rattle.nfs_machine.specs.Laws.{KeepsEntries}
use Rattle.nfs_machine.specs.LinkSteps.{link_end}
use Rattle.nfs_machine.specs.Making.{with_entry}
use Rattle.nfs_machine.specs.Permission.{ToChange}
use Rattle.nfs_machine.specs.RemoveSteps.{empty_directory, not_directory, without, object_under}
use Rattle.nfs_machine.specs.Resolve.{Named, resolve}
use Rattle.nfs_machine.specs.Shown.{touched, with_content, with_object}
use Rattle.nfs_machine.specs.State.{Content, Directory, Entry, Living, State}
use Rattle.nfs_machine.specs.Times.{time_of}
use Rattle.nfs_machine.specs.WellFormed.{Leads, WellFormed, is_root}
use Rattle.nfs_machine.specs.declared.context.Ctx.{Ctx}
use Rattle.nfs_machine.proofs.MapChangeLemmas.{
  apart,
  differs-insert,
  differs-other,
  differs-there,
  find-all,
  flipped,
  itself,
}
use Rattle.nfs_machine.proofs.WellFormedLemmas.{replaced-names}
use Rattle.nfs_machine.specs.Times.{touch}
use Rattle.nfs_machine.proofs.ContinuesLemmas.{Continues, kinds-continued, continues-itself, continues-losing}
use Rattle.nfs_machine.proofs.ContinuesLemmas.{continues-touched, continues-with, cookies-continued, gives-continued}
use Rattle.nfs_machine.proofs.ContinuesLemmas.{texts-continued, touches-continued, well_formed-losing}
use Rattle.nfs_machine.proofs.LinksCountedLemmas.{Counts, changed-losing, names-losing}
use Rattle.nfs_machine.proofs.CookieLemmas.{kept-added, kept-of, kept-same, kept-without}
use Rattle.nfs_machine.proofs.ChecksPassedLemmas.{
  absent,
  chained-is,
  directory-empty,
  holds,
  is-directory,
  leads-found,
  plain-empty,
  resolved-lives,
  numbered,
}
use Rattle.nfs_machine.proofs.FirmLemmas.{put-directory, put-over}
use Rattle.nfs_machine.proofs.ProcedureFollowsLemmas.{
  Follows,
  LocksFollow,
  beside-follows,
  bounds-losing,
  exports-losing,
  locks-losing,
}
use Rattle.nfs_machine.proofs.ProcedureFollowsLemmas.{locks-on, mounts-losing}
use Rattle.nfs_machine.proofs.LooseLemmas.{AddsName, Loose, Swaps, TakesName, also, loose-added, loose-taken}
use Rattle.nfs_machine.proofs.LooseLemmas.{
  loose-touched,
  loosened,
  names_of-added,
  names_of-taken,
  none_loose,
  tightened,
}
use Rattle.nfs_machine.specs.RemoveSteps.{take_end}
use Rattle.nfs_machine.specs.RemoveSteps.{rmdir_end}
use Rattle.nfs_machine.specs.RemoveSteps.{remove_end}
use Rattle.nfs_machine.proofs.MovedNameLemmas.{NamedEntry, named_as, with_name_taken}
use Rattle.nfs_machine.proofs.ExportedLemmas.{plain-no_root}

-- a name that is in its directory, and leads to what lives there
pub record IsNamedEntry (m : State) (n : NamedEntry) : Type 0 where
  pub lives : get m.objects n.place ≡ Some n.directory
  pub content : n.directory.content ≡ Directory n.entries n.last_cookie
  pub entry : Entry
  pub found : find (λ (x : Entry). same_bytes x.name n.name) n.entries ≡ Some entry
  pub number : entry.number ≡ n.number
  pub object : get m.objects n.number ≡ Some n.object

-- what an entry leads to lives at its number
pub under-entry : (m : State) (x : Option Entry) (o : Named) → object_under m x ≡ Some o → (e : Entry) × (x ≡ Some e)
    × (e.number ≡ o.number) × (get m.objects o.number ≡ Some o.object)
under-entry m None o is = cc
under-entry m (Some e) o is = found (get m.objects e.number) refl is
  where
    found : (l : Option Living) → get m.objects e.number ≡ l → option_map (λ (x : Living). numbered e.number x) l ≡ Some
        o → (f : Entry) × (Some e ≡ Some f) × (f.number ≡ o.number) × (get m.objects o.number ≡ Some o.object)
    found None at some = cc
    found (Some x) at some = (let same : numbered e.number x ≡ o = cc in (
      e,
      refl,
      ap (λ (y : Named). y.number) same,
      subst (λ (y : Named). get m.objects y.number ≡ Some y.object) same at,
    ))

pub is-under : (m : State) (directory : Named) (entries : DirectoryEntries) (name : List ℕ) (o : Named)
    → get m.objects directory.number ≡ Some directory.object
    → directory.object.content ≡ Directory entries.list entries.last_cookie
    → object_under m (entry_of entries.list name) ≡ Some o → IsNamedEntry m (named_as directory entries name o)
is-under m directory entries name o lives content is =
    let e = under-entry m (entry_of entries.list name) o is in
    record { lives = lives; content = content; entry = e.0; found = e.1; number = e.2; object = e.3 }

-- the names beside it keep their cookies
pub kept-taken : (m : State) (n : NamedEntry) → IsNamedEntry m n
    → KeepsEntries (entries_of n.directory.content) (without n.entries n.name)
kept-taken m n named = kept-of n.directory.content n.entries (without n.entries n.name) n.last_cookie named.content
    (kept-without n.entries n.entries n.name (kept-same n.entries))

-- a directory in the place of another: its entries alone differ
pub narrower-swaps : (m : State) (n : NamedEntry) (now : Time) (entries : List Entry) (last : ℕ) → IsNamedEntry m n
    → Swaps m (with_object m n.place (with_content n.directory now (Directory entries last))) n.place n.directory
    (with_content n.directory now (Directory entries last))
narrower-swaps m n now entries last named = record {
  lives = named.lives;
  objects = differs-insert m.objects n.place (with_content n.directory now (Directory entries last));
  export = refl;
  generation = refl;
  kind = sym (ap is_directory named.content);
  spent = λ n g e. e;
  keeps = record { exports = refl; last = refl };
}

module _ (m : State) (now : Time) (n : NamedEntry) (named : IsNamedEntry m n) where
  abbrev pub narrower : Living
  narrower = with_content n.directory now (Directory (without n.entries n.name) n.last_cookie)

  abbrev pub mid : State
  mid = with_object m n.place narrower

  pub takes : TakesName m mid n.place n.directory narrower n.name named.entry
  takes = record {
    swaps = narrower-swaps m n now (without n.entries n.name) n.last_cookie named;
    entries = n.entries;
    last = n.last_cookie;
    content = named.content;
    found = named.found;
    narrower_content = refl;
  }

  pub loose-mid : (loose : ℕ → Bool) → Loose loose m → Loose (also n.number loose) mid
  loose-mid loose l = subst (λ k. Loose (also k loose) mid) named.number (loose-taken m mid n.place n.directory narrower
      n.name named.entry takes loose l)

  -- the object has one name less
  pub one-less : (loose : ℕ → Bool) → Loose loose m → names_of mid n.number + 1 ≡ names_of m n.number
  one-less loose l =
      let one : cond {A = ℕ} (named.entry.number == n.number) 1 0 ≡ 1 = ap (λ k. cond {A = ℕ} (k == n.number) 1 0)
      named.number ∙ ap (λ b. cond b 1 0) (itself n.number) in
      omega (arith, names_of-taken m mid n.place n.directory narrower n.name named.entry takes loose l n.number, one)

  -- what a name leads to is no root
  no-root : WellFormed m → is_root m n.number ≡ false
  no-root w =
      let leads = subst (AllByRecursion (Leads m n.directory)) (ap entries_of named.content)
      (w.names n.place n.directory named.lives).leads in
      subst (λ k. is_root m k ≡ false) named.number
      (find-all (Leads m n.directory)
      (λ (x : Entry). same_bytes x.name n.name) n.entries named.entry leads named.found).no_root

  module _ (empty : entries_of n.object.content ≡ []) where
    -- it is another than its directory, which has an entry
    elsewhere : (n.number == n.place) ≡ false
    elsewhere = apart n.number n.place (λ same.
        let both : Some n.object ≡ Some n.directory = sym named.object ∙ ap (get m.objects) same ∙ named.lives in
        let is : n.object ≡ n.directory = cc in
        let none : n.entries ≡ [] = sym (ap entries_of named.content)
        ∙ sym (ap (λ (o : Living). entries_of o.content) is) ∙ empty in
        let found : find (λ (x : Entry). same_bytes x.name n.name) [] ≡ Some named.entry = subst
        (λ es. find (λ (x : Entry). same_bytes x.name n.name) es ≡ Some named.entry) none named.found in
        cc)

    object-there : get mid.objects n.number ≡ Some n.object
    object-there = differs-other m.objects mid.objects n.place (Some narrower)
        (differs-insert m.objects n.place narrower) n.number elsewhere ∙ named.object

    continues-taken : Continues now m (with_name_taken m now n)
    continues-taken =
        continues-losing now m mid (continues-with now m m (continues-itself now m) n.place n.directory named.lives
        (ap is_directory named.content) (without n.entries n.name) n.last_cookie (kept-taken m n named)) n.number
        n.object named.object (names_of m n.number)

    -- of what else lives on, no names went
    counts-taken : WellFormed m → Counts now m (with_name_taken m now n)
    counts-taken w = record {
      kinds = kinds-continued now m (with_name_taken m now n) continues-taken;
      names = λ k was is at there. elim (k == n.number) as (λ b. (k == n.number) ≡ b →
          (names_of (with_name_taken m now n) k ≡ names_of m k) ⊎ (is.changed ≡ touch was.changed now)) [
            | true ↦ λ e.
                let same : k ≡ n.number = (unsigned_Decides k n.number).0 e in
                let own : n.object ≡ was =
                (let both : Some n.object ≡ Some was = sym named.object ∙ ap (get m.objects)
                (sym same) ∙ at in cc) in
                inr (changed-losing mid now n.number n.object object-there (names_of m n.number) is
                (ap (get (with_name_taken m now n).objects) (sym same) ∙ there)
                ∙ ap (λ (x : Living). touch x.changed now) own)
            | false ↦ λ e.
                let none : cond {A = ℕ} (named.entry.number == k) 1 0 ≡ 0 = ap
                (λ x. cond {A = ℕ} (x == k) 1 0) named.number
                ∙ ap (λ b. cond b 1 0) (flipped k n.number e) in
                inl (omega (
                  arith,
                  none,
                  names-losing mid now n.number n.object object-there empty (names_of m n.number) k,
                  names_of-taken m mid n.place n.directory narrower n.name named.entry takes none_loose
                      (loosened none_loose m w) k,
                ))
          ] refl;
    }

    locks-taken : LocksFollow m (with_name_taken m now n)
    locks-taken = locks-losing m mid.objects
        (put-directory m.objects m.objects
        (λ k file. file) n.place n.directory narrower n.entries n.last_cookie named.lives
        named.content) (names_of m n.number) now n.number n.object named.object

    pub taken-follows : Follows now m (with_name_taken m now n)
    taken-follows = record {
      gives = gives-continued now m (with_name_taken m now n) continues-taken;
      touches = touches-continued now m (with_name_taken m now n) continues-taken;
      cookies = cookies-continued now m (with_name_taken m now n) continues-taken;
      formed = λ w.
          let l = loosened none_loose m w in
          well_formed-losing mid n.number n.object object-there (loose-mid none_loose l) (no-root w)
          (names_of m n.number) now empty (one-less none_loose l)
          (beside-follows m (with_name_taken m now n)
          (texts-continued now m (with_name_taken m now n) continues-taken w.texts)
          locks-taken (mounts-losing mid (names_of m n.number) now n.number n.object) w);
      locks = locks-taken;
      exports = (let k = exports-losing mid
          (names_of m n.number) now n.number n.object in record { exports = k.exports; last = k.last });
      counts = counts-taken;
      mounts = mounts-losing mid (names_of m n.number) now n.number n.object;
      bounds = bounds-losing mid (names_of m n.number) now n.number n.object;
    }

module _ (m : State) (ctx : Ctx) where
  abbrev Leaves : Unit {0} × State → Type 0
  Leaves e = Follows (time_of ctx.moment) m e.1

  take-follows : (place : DirOp) (name : List ℕ → Result (Unit {0}) NfsStatus) (content : Content
      → Result (Unit {0}) NfsStatus) → ((c : Content) (x : Unit {0}) → content c ≡ Ok x → entries_of c ≡ [])
      → IfOk (take_end m ctx place name content) Leaves
  take-follows place name content empty =
      chained-is Leaves (object_of (resolve m ctx place.directory)) _ (λ directory at.
      chained-is Leaves (entries_in directory.object.content) _ (λ entries is.
      chained-is Leaves (name place.name) _ (λ x1 e1.
      chained-is Leaves (changeable m.exports directory.object) _ (λ x2 e2.
      chained-is Leaves (permitted ctx directory.object ToChange) _ (λ x3 e3.
      chained-is Leaves (ok_or (object_under m (entry_of entries.list place.name)) status.NoEntry) _ (λ o e4.
      chained-is Leaves (content o.object.content) _ (λ x5 e5.
      taken-follows m (time_of ctx.moment) (named_as directory entries place.name o)
      (is-under m directory entries place.name o (resolved-lives m ctx place.directory directory at)
      (is-directory directory.object.content entries is)
      (leads-found (object_under m (entry_of entries.list place.name)) o e4))
      (empty o.object.content x5 e5))))))))

  pub remove-follows : (place : DirOp) → IfOk (remove_end m ctx place) Leaves
  remove-follows place = take-follows place (plain_name_checked status.Invalid status.Invalid) not_directory plain-empty

  pub rmdir-follows : (place : DirOp) → IfOk (rmdir_end m ctx place) Leaves
  rmdir-follows place = take-follows place (plain_name_checked status.Invalid status.Exists) empty_directory
      directory-empty

-- ---- one name more
module _ (m : State) (now : Time) (number : ℕ) (object : Living) (place : ℕ) (directory : Living) (entries : List Entry)
    (last : ℕ) (name : List ℕ)
    (there : get m.objects number ≡ Some object) (lives : get m.objects place ≡ Some directory)
    (export : object.export ≡ directory.export) (plain : is_directory object.content ≡ false)
    (content : directory.content ≡ Directory entries last) (none : find (λ (x : Entry). same_bytes x.name name)
    entries ≡ None) where
  abbrev wider : Living
  wider = with_content directory now (with_entry entries last name number)

  abbrev added : State
  added = with_object m place wider

  kind : is_directory directory.content ≡ true
  kind = ap is_directory content

  other-place : (number == place) ≡ false
  other-place = apart number place (λ same.
      let both : Some object ≡ Some directory = sym there ∙ ap (get m.objects) same ∙ lives in
      let is : object ≡ directory = cc in
      let no : true ≡ false = sym kind ∙ sym (ap (λ (o : Living). is_directory o.content) is) ∙ plain in cc)

  adds : WellFormed m → AddsName m added place number directory wider object name
  adds w = record {
    swaps = record {
      lives = lives;
      objects = differs-insert m.objects place wider;
      export = refl;
      generation = refl;
      kind = sym kind;
      spent = λ n g e. e;
      keeps = record { exports = refl; last = refl };
    };
    entries = entries;
    last = last;
    content = content;
    absent = none;
    wider_content = refl;
    lives = there;
    export = export;
    no_root = plain-no_root m w.exports number object there plain;
    nameless = λ e. (let no : true ≡ false = sym e ∙ plain in cc);
  }

  keeps : KeepsEntries (entries_of directory.content) (entries_of (with_entry entries last name number))
  keeps = kept-of directory.content entries _ last content (kept-added entries entries _ (kept-same entries)
      (λ e found same. cc))

  continues-linked : Continues now m (with_object added number (touched object now))
  continues-linked = continues-touched now m added
      (continues-with now m m (continues-itself now m) place directory lives kind _ _ keeps) number object there

  locks-linked : LocksFollow m (with_object added number (touched object now))
  locks-linked = locks-on m (with_object added number (touched object now)).objects m.spent
      (put-over m.objects added.objects
      (put-directory m.objects m.objects (λ k file. file) place directory wider entries last lives content)
      number object (touched object now) there (λ e. e))

  formed : WellFormed m → WellFormed (with_object added number (touched object now))
  formed w =
      let l = loosened (also number none_loose) m w in
      let wide = loose-added m added place number directory wider object name (adds w) none_loose l l.depth
      (record { deeper = l.deeper; added = λ e. (let no : true ≡ false = sym e ∙ plain in cc) }) in
      let at : get added.objects number ≡ Some object = differs-other m.objects added.objects place (Some wider)
      (differs-insert m.objects place wider) number other-place ∙ there in
      tightened (with_object added number (touched object now))
      (beside-follows m (with_object added number (touched object now))
      (texts-continued now m (with_object added number (touched object now)) continues-linked w.texts) locks-linked refl
      w)
      (loose-touched added number object at none_loose wide now)

  -- of what else lives on, no names came
  counts-linked : WellFormed m → Counts now m (with_object added number (touched object now))
  counts-linked w =
      let at : get added.objects number ≡ Some object = differs-other m.objects added.objects place (Some wider)
      (differs-insert m.objects place wider) number other-place ∙ there in record {
        kinds = kinds-continued now m (with_object added number (touched object now)) continues-linked;
        names = λ k was is before after. elim (k == number) as (λ b. (k == number) ≡ b →
            (names_of (with_object added number (touched object now)) k ≡ names_of m k) ⊎
            (is.changed ≡ touch was.changed now)) [
              | true ↦ λ e.
                  let same : k ≡ number = (unsigned_Decides k number).0 e in
                  let own : object ≡ was = (let both : Some object ≡ Some was = sym there ∙ ap (get m.objects)
                  (sym same) ∙ before in cc) in
                  let new : touched object now ≡ is = (let both : Some (touched object now) ≡ Some is =
                  sym (differs-there added.objects (with_object added number (touched object now)).objects number
                  (Some (touched object now)) (differs-insert added.objects number (touched object now)))
                  ∙ ap (get (with_object added number (touched object now)).objects) (sym same) ∙ after in cc) in
                  inr (sym (ap (λ (x : Living). x.changed) new) ∙ ap (λ (x : Living). touch x.changed now) own)
              | false ↦ λ e.
                  let none : cond {A = ℕ} (number == k) 1 0 ≡ 0 = ap (λ b. cond b 1 0) (flipped k number e) in
                  inl (omega (
                    arith,
                    none,
                    replaced-names added number object (touched object now) at
                        (record { export = refl; generation = refl; kind = refl; content = λ e. refl }) k,
                    names_of-added m added place number directory wider object name (adds w) k,
                  ))
            ] refl;
      }

  pub linked-follows : Follows now m (with_object added number (touched object now))
  linked-follows = record {
    gives = gives-continued now m (with_object added number (touched object now)) continues-linked;
    touches = touches-continued now m (with_object added number (touched object now)) continues-linked;
    cookies = cookies-continued now m (with_object added number (touched object now)) continues-linked;
    formed = formed;
    locks = locks-linked;
    exports = record { exports = refl; last = refl };
    counts = counts-linked;
    mounts = refl;
    bounds = λ h. h;
  }

pub link-follows : (m : State) (ctx : Ctx) (a : LinkArguments) → IfOk (link_end m ctx a) (Leaves m ctx)
link-follows m ctx a =
    let P : Unit {0} × State → Type 0 = Leaves m ctx in
    chained-is P (object_of (resolve m ctx a.file)) _ (λ file at.
    chained-is P (object_of (resolve m ctx a.place.directory)) _ (λ directory there.
    chained-is P (holding (file.object.export == directory.object.export) status.CrossDevice) _ (λ x1 e1.
    chained-is P (holding (not (is_directory file.object.content)) status.Invalid) _ (λ x2 e2.
    chained-is P (entries_in directory.object.content) _ (λ entries is.
    chained-is P (plain_name_checked status.Invalid status.Invalid a.place.name) _ (λ x3 e3.
    chained-is P (changeable m.exports directory.object) _ (λ x4 e4.
    chained-is P (permitted ctx directory.object ToChange) _ (λ x5 e5.
    chained-is P (holding (is_none (entry_of entries.list a.place.name)) status.Exists) _ (λ x6 e6.
    chained-is P (holding (nat_lt (links_of m file.number file.object.content) link_limit) status.TooManyLinks) _
    (λ x7 e7.
    chained-is P (holding (nat_lt (entries.last_cookie + 1) (2 ^ 64)) status.NoSpace) _ (λ x8 e8.
    linked-follows m (time_of ctx.moment) file.number file.object directory.number directory.object entries.list
    entries.last_cookie a.place.name
    (resolved-lives m ctx a.file file at) (resolved-lives m ctx a.place.directory directory there)
    ((unsigned_Decides file.object.export directory.object.export).0
    (holds (file.object.export == directory.object.export) status.CrossDevice x1 e1))
    (not-true (is_directory file.object.content) (holds (not (is_directory file.object.content)) status.Invalid x2 e2))
    (is-directory directory.object.content entries is)
    (absent entries.list a.place.name (holds (is_none (entry_of entries.list a.place.name)) status.Exists x6
    e6)))))))))))))
