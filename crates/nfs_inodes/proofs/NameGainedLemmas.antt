-- What one more name of an object leaves: the machine's state with it, and what is kept stays sound.
use Rattle.std.proofs.Common.{◌≡◌, ◌==◌, ℕ, ◌+◌, true, false, cond, List, [], ◌∷◌, ◌++◌}
use Rattle.std.proofs.Common.{Option, Some, None, Result, Ok, Err, refl, sym, ◌∙◌, ap, subst, arith}
use Rattle.std.specs.FinMap.{get}
use Rattle.nfs_wire.specs.declared.attributes.Attributes.{Attributes}
use Rattle.nfs_wire.specs.declared.attributes.Time.{Time}
use Rattle.nfs_wire.specs.declared.status.NfsStatus.{NfsStatus}
use Rattle.nfs_machine.proofs.MapChangeLemmas.{apart, differs-insert, differs-other, flipped}
use Rattle.nfs_machine.proofs.ExportedLemmas.{plain-no_root}
use Rattle.nfs_machine.proofs.ChecksPassedLemmas as facts
use Rattle.nfs_machine.proofs.LooseLemmas.{AddsName, loosened, none_loose}
use Rattle.nfs_machine.specs.Attributes.{is_directory, links_of}
use Rattle.nfs_machine.specs.Checks.{DirectoryEntries, entries_in, entry_of}
use Rattle.nfs_machine.specs.Making.{with_entry}
use Rattle.nfs_machine.specs.Shown.{touched, with_content, with_object}
use Rattle.nfs_machine.specs.State.{Directory, Entry, Living, State}
use Rattle.nfs_machine.specs.WellFormed.{WellFormed}
use Rattle.nfs_objects.specs.Edits.{with_living}
use Rattle.nfs_objects.specs.Sound.{Sound}
use Rattle.nfs_objects.specs.Stands.{StoreMeaning}
use Rattle.nfs_inodes.proofs.EditInodeLemmas.{edited-is}
use Rattle.nfs_inodes.proofs.KeptBesideLemmas.{changed-is}
use Rattle.nfs_inodes.proofs.SoundButLemmas.{SoundBut, added-but, links-named, put-sound, sound-but}
use Rattle.nfs_inodes.specs.Known.{IsKnown, content_at, object_at}
use Rattle.nfs_inodes.specs.Links.{link_gained, linked_so}
use Rattle.nfs_inodes.specs.Makes.{name_added, with_name}
use Rattle.nfs_inodes.specs.declared.found.Known.{Known}

module _ (k : StoreMeaning) (place x : Known) (known : IsKnown k.state place) (there : IsKnown k.state x) (now : Time)
    (name : List ℕ) (entries : DirectoryEntries)
    (listed : entries_in (content_at k.state place.number) ≡ Ok entries)
    (absent : entry_of entries.list name ≡ None) where
  abbrev m : State
  m = k.state

  abbrev entry : Entry
  entry = record { name = name; number = x.number; cookie = entries.last_cookie + 1 }

  abbrev wider : Living
  wider = with_content (object_at m place) now (with_entry entries.list entries.last_cookie name x.number)

  abbrev widened : StoreMeaning
  widened = with_living k place.number wider place.attributes.links (k.parents place.number)

  added-is : name_added now place.number place.attributes.links entry k ≡ widened
  added-is = changed-is k place.number place.attributes.links (with_name now entry) (object_at m place) wider
      known.lives
      (ap (λ (q : Result DirectoryEntries NfsStatus). elim q [
        | Ok es ↦ elim (entry_of es.list name) [
          | None ↦
              Some (with_content (object_at m place) now (Directory (es.list ++ entry ∷ []) entry.cookie))
          | Some
              found ↦ None
        ]
        | Err e ↦ None
      ]) listed
      ∙ ap (λ (f : Option Entry). elim f [ None ↦ Some wider | Some found ↦ None ]) absent)

  module _ (plain : is_directory (content_at m x.number) ≡ false) where
    content : content_at m place.number ≡ Directory entries.list entries.last_cookie
    content = facts.is-directory (content_at m place.number) entries listed

    -- the object is no directory, so another than this one
    elsewhere : (x.number == place.number) ≡ false
    elsewhere = apart x.number place.number (λ same.
        let no : true ≡ false = sym (ap is_directory content) ∙ ap (λ n. is_directory (content_at m n)) (sym same)
        ∙ plain in cc)

    object-there : get widened.state.objects x.number ≡ Some (object_at m x)
    object-there = differs-other m.objects widened.state.objects place.number (Some wider)
        (differs-insert m.objects place.number wider) x.number elsewhere ∙ there.lives

    -- so many links it has
    gained-is : (links : ℕ) → link_gained now place.number place.attributes.links entry links k ≡
        with_living widened x.number (touched (object_at m x) now) links (widened.parents x.number)
    gained-is links = ap (linked_so now x.number links) added-is ∙ edited-is (λ o. touched o now) (λ l. links)
        widened x.number (object_at m x) object-there

    pub gained-state : (links : ℕ) → (link_gained now place.number place.attributes.links entry links k).state ≡
        with_object (with_object m place.number wider) x.number (touched (object_at m x) now)
    gained-state links = ap (λ (q : StoreMeaning). q.state) (gained-is links)

    module _ (export : x.export ≡ place.export) (formed : WellFormed m) (sound : Sound k) where
      adds : AddsName m widened.state place.number x.number (object_at m place) wider (object_at m x) name
      adds = record {
        swaps = record {
          lives = known.lives;
          objects = differs-insert m.objects place.number wider;
          export = refl;
          generation = refl;
          kind = sym (ap is_directory content);
          spent = λ n g e. e;
          keeps = record { exports = refl; last = refl };
        };
        entries = entries.list;
        last = entries.last_cookie;
        content = content;
        absent = absent;
        wider_content = refl;
        lives = there.lives;
        export = export;
        no_root = plain-no_root m formed.exports x.number (object_at m x) there.lives plain;
        nameless = λ e. (let no : true ≡ false = sym e ∙ plain in cc);
      }

      -- the directory's links are what they were
      kept : place.attributes.links ≡ k.links place.number + cond (is_directory (content_at m x.number)) 1 0
      kept =
          let none : cond {A = ℕ} (is_directory (content_at m x.number)) 1 0 ≡ 0 = ap (λ b. cond b 1 0) plain in
          let shown : place.attributes.links ≡ links_of m place.number (content_at m place.number) =
          ap (λ (a : Attributes). a.links) known.shows in
          omega (arith, none, shown, sound.links place.number (object_at m place) known.lives)

      but : SoundBut x.number widened
      but = added-but k place.number x.number (object_at m place) wider (object_at m x) name adds none_loose
          (loosened none_loose m formed) (sound-but x.number k sound)
          place.attributes.links kept (flipped x.number place.number elsewhere)

      linked : x.attributes.links + 1 ≡ links_of widened.state x.number (content_at m x.number)
      linked =
          let shown : x.attributes.links ≡ links_of m x.number (content_at m x.number) =
          ap (λ (a : Attributes). a.links) there.shows in
          omega (
            arith,
            shown,
            links-named k place.number x.number (object_at m place) wider (object_at m x) name adds
                none_loose (loosened none_loose m formed) (sound-but x.number k sound) plain,
          )

      pub gained-sound : Sound (link_gained now place.number place.attributes.links entry (x.attributes.links + 1) k)
      gained-sound = subst Sound (sym (gained-is (x.attributes.links + 1)))
          (put-sound widened x.number (object_at m x) (touched (object_at m x) now) object-there
          (record { export = refl; generation = refl; kind = refl; content = λ e. refl }) refl but
          (x.attributes.links + 1) (widened.parents x.number) linked
          (λ dir. (let no : true ≡ false = sym dir ∙ plain in cc)))
