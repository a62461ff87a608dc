-- Writes to blocks and maps of one file, or to pages and parts of one directory, leave all else of what a store stands
-- for.
use Rattle.std.proofs.Common.{◌≡◌, ◌==◌, ◌&&◌, ℕ, false, cond, List, Option, refl, sym, ◌∙◌, ap, subst, ◌/◌, ◌%◌}
use Rattle.nfs_objects.proofs.DirectoryStoreLemmas.{block-but, map-but, page-but, part-but}
use Rattle.nfs_objects.proofs.LocksStandLemmas.{files-same, locks-stay}
use Rattle.nfs_objects.proofs.SeenLemmas.{writes-append}
use Rattle.nfs_objects.specs.Bits.{has}
use Rattle.nfs_objects.specs.FileMaps.{IsContent}
use Rattle.nfs_objects.specs.Stands.{IsMapped, IsStored, StoreMeaning, bytes_at, map_of}
use Rattle.nfs_objects.specs.Stands.{filed_in, pages_of}
use Rattle.nfs_objects.specs.Store.{Store, with_write, with_writes}
use Rattle.nfs_objects.specs.Unfiled.{Enters, Lays, RepresentsBut}
use Rattle.nfs_objects.specs.Values.{DraftValue, with_written}
use Rattle.nfs_objects.specs.declared.address.Addr.{Addr}
use Rattle.nfs_objects.specs.declared.address.Addr.TheVariants as addresses
use Rattle.nfs_objects.specs.declared.object.Object.{Object}

module _ (number : ℕ) (s : Store) (k : StoreMeaning) (but : RepresentsBut number s k) where
  pub map-laid : (page : ℕ) (o : Option Object) → RepresentsBut number (with_write s (addresses.Map number page) o) k
  map-laid page o = record {
    tables = record {
      table = but.tables.table;
      exports = but.tables.exports;
      last_export = but.tables.last_export;
      mounts = but.tables.mounts;
    };
    objects = record {
      objects = but.objects.objects;
      links = but.objects.links;
      parents = but.objects.parents;
      given = but.objects.given;
      fits = but.objects.fits;
      spent = but.objects.spent;
      numbered = but.objects.numbered;
    };
    files = record {
      blocks = λ n other.
          let same : (p : ℕ) → (with_write s (addresses.Map number page) o).at (addresses.Map n p) ≡
          s.at (addresses.Map n p) =
          λ p. ap (λ b. cond (b && (page == p)) o (s.at (addresses.Map n p))) other in
          let was = but.files.blocks n other in record {
            maps = λ p. subst (IsMapped (has (pages_of (s.at (addresses.Inode n))) p)) (sym (same p)) (was.maps p);
            blocks = λ i. subst (λ m. IsStored (has (map_of m) (i % 512)) (s.at (addresses.Block n i)))
                (sym (same (i / 512))) (was.blocks i);
          };
      bytes = but.files.bytes;
    };
    directories = map-but number s k but.directories page o;
    usages = record { usage = but.usages.usage };
    locks = locks-stay s _ k.state k.state refl (files-same s) but.locks;
  }

  pub block-laid : (index : ℕ) (o : Option Object) →
      RepresentsBut number (with_write s (addresses.Block number index) o) k
  block-laid index o = record {
    tables = record {
      table = but.tables.table;
      exports = but.tables.exports;
      last_export = but.tables.last_export;
      mounts = but.tables.mounts;
    };
    objects = record {
      objects = but.objects.objects;
      links = but.objects.links;
      parents = but.objects.parents;
      given = but.objects.given;
      fits = but.objects.fits;
      spent = but.objects.spent;
      numbered = but.objects.numbered;
    };
    files = record {
      blocks = λ n other.
          let was = but.files.blocks n other in record {
            maps = was.maps;
            blocks = λ i. subst (IsStored (has (map_of (s.at (addresses.Map n (i / 512)))) (i % 512)))
                (sym (same n other i)) (was.blocks i);
          };
      bytes = λ n i map other there is.
          subst (λ (f : ℕ → List ℕ). IsContent map.size f (bytes_at k.state n))
          (λ p b. filed_in map b (sym (same n other b) p)) (but.files.bytes n i map other there is);
    };
    directories = block-but number s k but.directories index o;
    usages = record { usage = but.usages.usage };
    locks = locks-stay s _ k.state k.state refl (files-same s) but.locks;
  }
    where
      same : (n : ℕ) → (number == n) ≡ false → (b : ℕ) →
          (with_write s (addresses.Block number index) o).at (addresses.Block n b) ≡ s.at (addresses.Block n b)
      same n other b = ap (λ t. cond (t && (index == b)) o (s.at (addresses.Block n b))) other

module _ (number : ℕ) (s : Store) (k : StoreMeaning) (but : RepresentsBut number s k) where
  pub page-laid : (page : ℕ) (o : Option Object) → RepresentsBut number (with_write s (addresses.Page number page) o) k
  page-laid page o = record {
    tables = record {
      table = but.tables.table;
      exports = but.tables.exports;
      last_export = but.tables.last_export;
      mounts = but.tables.mounts;
    };
    objects = record {
      objects = but.objects.objects;
      links = but.objects.links;
      parents = but.objects.parents;
      given = but.objects.given;
      fits = but.objects.fits;
      spent = but.objects.spent;
      numbered = but.objects.numbered;
    };
    files = record {
      blocks = λ n other.
          let was = but.files.blocks n other in record { maps = was.maps; blocks = was.blocks };
      bytes = but.files.bytes;
    };
    directories = page-but number s k but.directories page o;
    usages = record { usage = but.usages.usage };
    locks = locks-stay s _ k.state k.state refl (files-same s) but.locks;
  }

  pub part-laid : (bucket part : ℕ) (o : Option Object) →
      RepresentsBut number (with_write s (addresses.Part number bucket part) o) k
  part-laid bucket part o = record {
    tables = record {
      table = but.tables.table;
      exports = but.tables.exports;
      last_export = but.tables.last_export;
      mounts = but.tables.mounts;
    };
    objects = record {
      objects = but.objects.objects;
      links = but.objects.links;
      parents = but.objects.parents;
      given = but.objects.given;
      fits = but.objects.fits;
      spent = but.objects.spent;
      numbered = but.objects.numbered;
    };
    files = record {
      blocks = λ n other.
          let was = but.files.blocks n other in record { maps = was.maps; blocks = was.blocks };
      bytes = but.files.bytes;
    };
    directories = part-but number s k but.directories bucket part o;
    usages = record { usage = but.usages.usage };
    locks = locks-stay s _ k.state k.state refl (files-same s) but.locks;
  }

-- ---- drafts
pub lays-none : (number : ℕ) (d : DraftValue) → Lays number d d
lays-none number d = record {
  ctx = refl;
  view = refl;
  modes = refl;
  messages = refl;
  lays = λ s k but. but;
  inodes = λ s n. refl;
  entries = λ s. record { pages = λ n page. refl; parts = λ n bucket part. refl };
  locks = λ s b. refl;
}

pub lays-both : (number : ℕ) (d mid new : DraftValue) → Lays number d mid → Lays number mid new → Lays number d new
lays-both number d mid new first second = record {
  ctx = second.ctx ∙ first.ctx;
  view = second.view ∙ first.view;
  modes = second.modes ∙ first.modes;
  messages = second.messages ∙ first.messages;
  lays = λ s k but. second.lays s k (first.lays s k but);
  inodes = λ s n. second.inodes s n ∙ first.inodes s n;
  entries = λ s. record {
    pages = λ n page. (second.entries s).pages n page ∙ (first.entries s).pages n page;
    parts = λ n bucket part. (second.entries s).parts n bucket part ∙ (first.entries s).parts n bucket part;
  };
  locks = λ s b. second.locks s b ∙ first.locks s b;
}

pub lays-map : (number : ℕ) (d : DraftValue) (page : ℕ) (o : Option Object) →
    Lays number d (with_written d (addresses.Map number page) o)
lays-map number d page o = record {
  ctx = refl;
  view = refl;
  modes = refl;
  messages = refl;
  lays = λ s k but. subst (λ (x : Store). RepresentsBut number x k)
      (sym (writes-append d.writes s (addresses.Map number page) o)) (map-laid number (with_writes s d.writes) k but
      page o);
  inodes = λ s n. ap (λ (x : Store). x.at (addresses.Inode n)) (writes-append d.writes s (addresses.Map number page) o);
  entries = λ s. record {
    pages = λ n q. ap (λ (x : Store). x.at (addresses.Page n q))
        (writes-append d.writes s (addresses.Map number page) o);
    parts = λ n c q. ap (λ (x : Store). x.at (addresses.Part n c q))
        (writes-append d.writes s (addresses.Map number page) o);
  };
  locks = λ s b. ap (λ (x : Store). x.at (addresses.Locks b)) (writes-append d.writes s (addresses.Map number page) o);
}

pub lays-block : (number : ℕ) (d : DraftValue) (index : ℕ) (o : Option Object) →
    Lays number d (with_written d (addresses.Block number index) o)
lays-block number d index o = record {
  ctx = refl;
  view = refl;
  modes = refl;
  messages = refl;
  lays = λ s k but. subst (λ (x : Store). RepresentsBut number x k)
      (sym (writes-append d.writes s (addresses.Block number index) o))
      (block-laid number (with_writes s d.writes) k but index o);
  inodes = λ s n. ap (λ (x : Store). x.at (addresses.Inode n))
      (writes-append d.writes s (addresses.Block number index) o);
  entries = λ s. record {
    pages = λ n q. ap (λ (x : Store). x.at (addresses.Page n q))
        (writes-append d.writes s (addresses.Block number index) o);
    parts = λ n c q. ap (λ (x : Store). x.at (addresses.Part n c q))
        (writes-append d.writes s (addresses.Block number index) o);
  };
  locks = λ s b. ap (λ (x : Store). x.at (addresses.Locks b))
      (writes-append d.writes s (addresses.Block number index) o);
}

-- the same of pages and parts
pub enters-none : (number : ℕ) (d : DraftValue) → Enters number d d
enters-none number d = record {
  ctx = refl;
  view = refl;
  modes = refl;
  messages = refl;
  lays = λ s k but. but;
  inodes = λ s n. refl;
  blocks = λ s. record { maps = λ n page. refl; blocks = λ n index. refl };
  locks = λ s b. refl;
}

pub enters-both : (number : ℕ) (d mid new : DraftValue) → Enters number d mid → Enters number mid new →
    Enters number d new
enters-both number d mid new first second = record {
  ctx = second.ctx ∙ first.ctx;
  view = second.view ∙ first.view;
  modes = second.modes ∙ first.modes;
  messages = second.messages ∙ first.messages;
  lays = λ s k but. second.lays s k (first.lays s k but);
  inodes = λ s n. second.inodes s n ∙ first.inodes s n;
  blocks = λ s. record {
    maps = λ n page. (second.blocks s).maps n page ∙ (first.blocks s).maps n page;
    blocks = λ n index. (second.blocks s).blocks n index ∙ (first.blocks s).blocks n index;
  };
  locks = λ s b. second.locks s b ∙ first.locks s b;
}

pub enters-page : (number : ℕ) (d : DraftValue) (page : ℕ) (o : Option Object) →
    Enters number d (with_written d (addresses.Page number page) o)
enters-page number d page o = record {
  ctx = refl;
  view = refl;
  modes = refl;
  messages = refl;
  lays = λ s k but. subst (λ (x : Store). RepresentsBut number x k)
      (sym (writes-append d.writes s (addresses.Page number page) o))
      (page-laid number (with_writes s d.writes) k but page o);
  inodes = λ s n. ap (λ (x : Store). x.at (addresses.Inode n))
      (writes-append d.writes s (addresses.Page number page) o);
  blocks = λ s. record {
    maps = λ n q. ap (λ (x : Store). x.at (addresses.Map n q))
        (writes-append d.writes s (addresses.Page number page) o);
    blocks = λ n q. ap (λ (x : Store). x.at (addresses.Block n q))
        (writes-append d.writes s (addresses.Page number page) o);
  };
  locks = λ s b. ap (λ (x : Store). x.at (addresses.Locks b)) (writes-append d.writes s (addresses.Page number page) o);
}

pub enters-part : (number : ℕ) (d : DraftValue) (bucket part : ℕ) (o : Option Object) →
    Enters number d (with_written d (addresses.Part number bucket part) o)
enters-part number d bucket part o = record {
  ctx = refl;
  view = refl;
  modes = refl;
  messages = refl;
  lays = λ s k but. subst (λ (x : Store). RepresentsBut number x k)
      (sym (writes-append d.writes s (addresses.Part number bucket part) o))
      (part-laid number (with_writes s d.writes) k but bucket part o);
  inodes = λ s n.
      ap (λ (x : Store). x.at (addresses.Inode n)) (writes-append d.writes s (addresses.Part number bucket part) o);
  blocks = λ s. record {
    maps = λ n q.
        ap (λ (x : Store). x.at (addresses.Map n q)) (writes-append d.writes s (addresses.Part number bucket part) o);
    blocks = λ n q.
        ap (λ (x : Store). x.at (addresses.Block n q)) (writes-append d.writes s (addresses.Part number bucket part) o);
  };
  locks = λ s b. ap (λ (x : Store). x.at (addresses.Locks b))
      (writes-append d.writes s (addresses.Part number bucket part) o);
}
