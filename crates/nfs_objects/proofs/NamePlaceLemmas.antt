-- Where the names of a directory stand, as its map and its inode tell.
use Rattle.std.proofs.Common.{◌≡◌, ℕ, cond, List, Option, Some, None, option_map, refl, sym, ◌∙◌, ap}
use Rattle.std.proofs.Common.{arith}
use Rattle.std.proofs.lemmas.Bool.{eq-eqb, ne_eqb}
use Rattle.nfs_objects.specs.Directories.{IsPlace, bucket_of, part_among, part_place, width_in}
use Rattle.nfs_objects.specs.Modes.{part_address}
use Rattle.nfs_objects.specs.Stands.{entry_map_in, entry_map_of, header_in, header_of, inode_of}
use Rattle.nfs_objects.specs.declared.address.Addr.{Addr}
use Rattle.nfs_objects.specs.declared.address.Addr.TheVariants as addresses
use Rattle.nfs_objects.specs.declared.directory.Directory.{Directory}
use Rattle.nfs_objects.specs.declared.entry_map.EntryMap.{EntryMap}
use Rattle.nfs_objects.specs.declared.entry_map.NamePlace.{NamePlace}
use Rattle.nfs_objects.specs.declared.object.Content.{Content}
use Rattle.nfs_objects.specs.declared.object.Content.TheVariants as contents
use Rattle.nfs_objects.specs.declared.object.Inode.{Inode}
use Rattle.nfs_objects.specs.declared.object.Object.{Object}

-- the address of a place
abbrev pub address_of : (directory : ℕ) → NamePlace → Addr
address_of directory place = addresses.Part directory place.bucket place.part

-- the part that a name is in stands at its place
pub place-tells : (m : EntryMap) (n : ℕ) (name : List ℕ) (place : Option NamePlace) → IsPlace m name place →
    part_place m n name ≡ option_map (address_of n) place
place-tells m n name None none =
    ap (λ b. cond b None (Some (addresses.Part n (bucket_of name)
    (part_among m.key (width_in m.counts (bucket_of name)) name))))
    (eq-eqb (width_in m.counts (bucket_of name)) 0 none)
place-tells m n name (Some p) at =
    ap (λ b. cond b None (Some (addresses.Part n (bucket_of name)
    (part_among m.key (width_in m.counts (bucket_of name)) name))))
    (ne_eqb (width_in m.counts (bucket_of name)) 0 (λ same. omega (arith, same, at.2)))
    ∙ (λ i. Some (addresses.Part n (sym at.0 i) (sym at.1 i)))

-- what stands somewhere has the map of its directory, if it is one
map-of-header : (o : Option Object) → entry_map_of o ≡ option_map (λ (h : Directory). h.entries) (header_of o)
map-of-header o = by (inode_of o)
  where
    own : (c : Content) → entry_map_in c ≡ option_map (λ (h : Directory). h.entries) (header_in c)
    own (contents.Regular map) = refl
    own (contents.Directory directory) = refl
    own (contents.Link text) = refl
    own (contents.BlockDevice device) = refl
    own (contents.CharacterDevice device) = refl
    own contents.Socket = refl
    own contents.Fifo = refl

    by : (i : Option Inode) → elim i [ None ↦ None | Some i ↦ entry_map_in i.content ]
        ≡ option_map (λ (h : Directory). h.entries) (elim i [ None ↦ None | Some i ↦ header_in i.content ])
    by None = refl
    by (Some i) = own i.content

pub address-tells : (n : ℕ) (o : Option Object) (name : List ℕ) (h : Option Directory) → h ≡ header_of o →
    part_address n o name ≡ elim h [ None ↦ None | Some d ↦ part_place d.entries n name ]
address-tells n o name h is =
    ap (λ m. elim m [ None ↦ None | Some m ↦ part_place m n name ])
    (map-of-header o ∙ ap (option_map (λ (h : Directory). h.entries)) (sym is))
    ∙ own h
  where
    own : (h : Option Directory) → ◌≡◌ {A = Option Addr}
        (elim (option_map (λ (h : Directory). h.entries) h) [ None ↦ None | Some m ↦ part_place m n name ])
        (elim h [ None ↦ None | Some d ↦ part_place d.entries n name ])
    own None = refl
    own (Some d) = refl
