-- A book that is swept: its store stands for the same state.
use Rattle.std.proofs.Common.{◌≡◌, ◌==◌, ◌≤◌, ℕ, Bool, true, false, cond, max, List}
use Rattle.std.proofs.Common.{Some, None, IsSome, inl, inr, refl, sym, ◌∙◌, ap, subst, arith}
use Rattle.std.specs.Cmp.{unsigned_Decides}
use Rattle.nfs_machine.specs.Run.{Record, Run, Setting}
use Rattle.nfs_machine.specs.State.{State}
use Rattle.nfs_objects.specs.Bits.{no_bits, same_bits}
use Rattle.nfs_objects.specs.Store.{Store, give}
use Rattle.nfs_objects.specs.declared.address.Addr.{Addr}
use Rattle.nfs_objects.specs.declared.address.Addr.TheVariants as addresses
use Rattle.nfs_objects.specs.declared.object.Content.TheVariants as contents
use Rattle.nfs_objects.specs.declared.object.Inode.{Inode}
use Rattle.nfs_objects.specs.declared.object.Object.TheVariants as stored
use Rattle.nfs_engine.proofs.SweptStoreLemmas.{swept-stands}
use Rattle.nfs_engine.proofs.CommitLeadsLemmas.{led_run}
use Rattle.nfs_engine.specs.Book.{BookValue, IsBook, IsRun, LeadsBook, StandsFor, book_value, store_in}
use Rattle.nfs_engine.specs.Journal.{JournalValue}
use Rattle.nfs_engine.specs.Running.{CallsValue}
use Rattle.nfs_engine.specs.Sweeps.{MaySweep, SweepValue, Sweeps, swept_at}
use Rattle.nfs_engine.specs.Tables.{store_of}
use Rattle.nfs_replies.specs.Replies.{RepliesValue}

-- the inode that loses a page
abbrev losing : (s : Store) (w : SweepValue) → MaySweep s w → Inode
losing s w (inl may) = may.old
losing s w (inr may) = may.old

-- it stands there
losing-stands : (s : Store) (w : SweepValue) (may : MaySweep s w) →
    s.at (addresses.Inode w.file) ≡ Some (stored.Inode (losing s w may))
losing-stands s w (inl may) = may.dead.stands
losing-stands s w (inr may) = may.stands

pub sweep-stands : (s : Store) (w : SweepValue) → MaySweep s w → IsSome w.inode →
    IsSome (s.at (addresses.Inode w.file))
sweep-stands s w may some = subst (λ o. IsSome o) (sym (losing-stands s w may)) refl

-- no generation is given that was not
left-stays : (s : Store) (w : SweepValue) (i : Inode) → i.generation ≤ s.last w.file → (q : ℕ) →
    give s.last (addresses.Inode w.file) (Some (stored.Inode i)) q ≡ s.last q
left-stays s w i given q = elim (w.file == q) as (λ b. (w.file == q) ≡ b →
    cond b (max (s.last q) i.generation) (s.last q) ≡ s.last q) [
      | true ↦ λ same.
          (let is : i.generation ≤ s.last q =
          subst (λ n. i.generation ≤ s.last n) ((unsigned_Decides w.file q).0 same) given in omega (arith, is))
      | false ↦ λ other. refl
    ] refl

last-stays : (s : Store) (w : SweepValue) (may : MaySweep s w) → (losing s w may).generation ≤ s.last w.file → (q : ℕ) →
    give s.last (addresses.Inode w.file) w.inode q ≡ s.last q
last-stays s w (inl may) given q = ap (λ o. give s.last (addresses.Inode w.file) o q) may.left
    ∙ by (same_bits may.pages no_bits)
  where
    left : Inode
    left = record may.old { content = contents.Regular (record may.map { pages = may.pages }) }

    by : (b : Bool) → give s.last (addresses.Inode w.file) (cond b None (Some (stored.Inode left))) q ≡ s.last q
    by true = refl
    by false = left-stays s w left given q
last-stays s w (inr may) given q = ap (λ o. give s.last (addresses.Inode w.file) o q) may.left
    ∙ left-stays s w (record may.old { content = contents.Regular (record may.map { pages = may.pages }) }) given q

pub swept-so : (old new : BookValue) (w : SweepValue) (may : MaySweep (store_in old) w) → IsRun old →
    ((a : Addr) → (store_in new).at a ≡ swept_at w (store_in old).at a) →
    ((q : ℕ) → (store_in new).last q ≡ give (store_in old).last (addresses.Inode w.file) w.inode q) →
    Sweeps (store_in old) (store_in new) w
swept-so old new w may run at last = record {
  may = may;
  at = at;
  last = λ q. last q ∙ last-stays (store_in old) w may
      (run.leads.stands.represents.objects.given w.file (losing (store_in old) w may)
      (losing-stands (store_in old) w may)) q;
}

-- the store stands for the same state
pub stands-swept : (s t : Store) (w : SweepValue) (m : State) → Sweeps s t w → StandsFor s m → StandsFor t m
stands-swept s t w m sweeps stands = record {
  links = stands.links;
  parents = stands.parents;
  usage = stands.usage;
  represents = swept-stands s t w sweeps
      (record { state = m; links = stands.links; parents = stands.parents; usage = stands.usage }) stands.represents;
  sound = stands.sound;
  formed = stands.formed;
  within = stands.within;
}

-- so the records lead to the new store
pub swept-leads : (old new : BookValue) (w : SweepValue) → Sweeps (store_in old) (store_in new) w →
    new.records ≡ old.records → new.setting ≡ old.setting → LeadsBook old new
swept-leads old new w sweeps records setting base l = record {
  state = l.state;
  run = subst (λ (s : Setting). Run s base new.records l.state) (sym setting)
      (subst (λ (rs : List Record). Run old.setting base rs l.state) (sym records) l.run);
  stands = stands-swept (store_in old) (store_in new) w l.state sweeps l.stands;
}

-- the same of the parts of a book
module _ (j k : JournalValue) (replies : RepliesValue) (calls : CallsValue) (setting : Setting) (limit : ℕ)
    (w : SweepValue) (may : MaySweep (store_of j.objects.slots) w)
    (is : IsBook (book_value j replies calls setting limit))
    (at : (a : Addr) → (store_of k.objects.slots).at a ≡ swept_at w (store_of j.objects.slots).at a)
    (last : (q : ℕ) → (store_of k.objects.slots).last q ≡
    give (store_of j.objects.slots).last (addresses.Inode w.file) w.inode q)
    (rest : k ≡ record j { objects = k.objects }) where
  abbrev old : BookValue
  old = book_value j replies calls setting limit

  abbrev new : BookValue
  new = book_value k replies calls setting limit

  pub book-sweeps : Sweeps (store_in old) (store_in new) w
  book-sweeps = swept-so old new w may is.run at last

  pub book-leads : LeadsBook old new
  book-leads = swept-leads old new w book-sweeps (ap (λ (x : JournalValue). x.records.list) rest) refl

  pub book-rest : new ≡ record old { objects = new.objects }
  book-rest = ap (λ (x : JournalValue). book_value x replies calls setting limit) rest

  pub swept-book : IsBook new
  swept-book = record {
    run = led_run old new (ap (λ (x : JournalValue). x.base) rest) book-leads is.run;
    unkept = is.unkept;
  }
