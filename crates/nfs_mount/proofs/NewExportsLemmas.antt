-- The state whose exports were replaced, with the roots of new ones, is the machine's, and what is kept of it is right.
use Rattle.std.proofs.Common.{◌≡◌, ◌==◌, ◌⊎◌, ℕ, ◌+◌, ◌<◌, ◌≤◌, ◌^◌, Bool, true, false, cond, List}
use Rattle.std.proofs.Common.{[], ◌∷◌, Option, Some, None, is_some, inl, inr, refl, sym, ◌∙◌, ap, subst, arith}
use Rattle.std.proofs.lemmas.List.Sums.{sum_by-cons}
use Rattle.std.specs.Cmp.{unsigned_Decides}
use Rattle.std.specs.FinMap.{get}
use Rattle.std.specs.List.{AllByRecursion, count_by}
use Rattle.std.specs.Option.{option_map_or}
use Rattle.nfs_wire.specs.declared.attributes.Time.{Time}
use Rattle.nfs_machine.proofs.ExportedLemmas.{export-all, export-number}
use Rattle.nfs_machine.proofs.StepKeepsLemmas.{room as room-fits}
use Rattle.nfs_machine.proofs.RenumberedExportsLemmas.{with-path}
use Rattle.nfs_machine.proofs.ReplacedStateLemmas.{Comes, IsNew, IsOld, comes, got, is-new-root, lived-elsewhere}
use Rattle.nfs_machine.proofs.ReplacedStateLemmas.{names-kept}
use Rattle.nfs_machine.proofs.ReplacedStateLemmas.{on, some-number, still-root, what-lives}
use Rattle.nfs_machine.proofs.WellFormedLemmas.{all_map, counts-same, is_subdirectory, links-same}
use Rattle.nfs_machine.specs.Attributes.{entries_of, is_directory, is_living_directory, links_of}
use Rattle.nfs_machine.specs.ExportFaults.{AreFaultless}
use Rattle.nfs_machine.specs.Exports.{ExportValue, LivingExport, export_at}
use Rattle.nfs_machine.specs.Replacing.{AreFreshRoots, ReplaceStep, Replaces, RootChoice}
use Rattle.nfs_machine.specs.Replacing.{is_exhausted, new_count, renumbered, replaced, staying}
use Rattle.nfs_machine.specs.State.{Entry, Living, State}
use Rattle.nfs_machine.specs.Times.{time_of}
use Rattle.nfs_machine.specs.WellFormed.{IsNumbered, IsParent, Leads, WellFormed, is_root}
use Rattle.nfs_machine.specs.declared.context.Ctx.{Ctx}
use Rattle.nfs_objects.proofs.UsageSumLemmas.{AllFit}
use Rattle.nfs_objects.specs.ExportTables.{ExportTableValue}
use Rattle.nfs_objects.specs.Replaced.{with_table}
use Rattle.nfs_objects.specs.Sound.{Sound}
use Rattle.nfs_objects.specs.Stands.{StoreMeaning, lives_in}
use Rattle.nfs_objects.specs.Sums.{usage_in}
use Rattle.nfs_inodes.proofs.RootsMadeLemmas.{AreFree, links-made, links-stay, parents-made, parents-stay, spent-made}
use Rattle.nfs_inodes.proofs.RootsMadeLemmas.{spent-stays, state-made, usage-made}
use Rattle.nfs_inodes.proofs.UsageStaysLemmas.{stayed, table-usage}
use Rattle.nfs_inodes.specs.Roots.{Follows, roots_made}

-- where a number would not fit nothing changes
abbrev StepUnless : State → Time → List ExportValue → State → Bool → Type 0
StepUnless m now exports new b = elim b [ true ↦ new ≡ m | false ↦ Replaces m now exports new ]

-- ---- the table
-- the table that replaces another, with roots that are chosen so
abbrev pub table_of : List LivingExport → (last : ℕ) → List ExportValue → (choose : ℕ → RootChoice) → ExportTableValue
table_of living last exports choose = record {
  exports = renumbered living (λ e. (choose e).number) last exports;
  last = last + new_count living exports;
}

-- what is true of the exports that live is so of the one with a number
numbered-used : (living : List LivingExport) (last : ℕ) → AllByRecursion (IsNumbered last) living → (e : ℕ)
    → lives_in living e ≡ true → e ≤ last
numbered-used living last numbered e lives = by (export_at living e) refl lives
  where
    by : (o : Option LivingExport) → export_at living e ≡ o → is_some o ≡ true → e ≤ last
    by None at some = cc
    by (Some x) at some =
        let low : x.number ≤ last = (export-all (IsNumbered last) living e x numbered at).2 in
        let own = export-number living e x at in
        omega (arith, low, own)

-- where each export of it comes from
abbrev IsHere : State → List ExportValue → (choose : ℕ → RootChoice) → LivingExport → Type 0
IsHere m exports choose x =
    Comes m.exports (λ e. (choose e).number) m.last_export (m.last_export + new_count m.exports exports) x

-- it follows that one
pub table-follows : (m : State) (exports : List ExportValue) (choose : ℕ → RootChoice)
    → AllByRecursion (IsNumbered m.last_export) m.exports
    → Follows m (table_of m.exports m.last_export exports choose)
table-follows m exports choose numbered = record {
  lived = λ e lives. by e (export_at (table_of m.exports m.last_export exports choose).exports e) refl lives;
  grown = omega arith;
  used = numbered-used m.exports m.last_export numbered;
}
  where
    from : (e : ℕ) (x : LivingExport) → x.number ≡ e → IsHere m exports choose x
        → (lives_in m.exports e ≡ true) ⊎ (m.last_export < e)
    from e x own (inl (was, found, number, root)) = inl (ap (lives_in m.exports) (sym own ∙ number)
        ∙ (with-path (λ (y : LivingExport). is_some (export_at m.exports y.number) ≡ true) m.exports x.path was found
        (some-number m.exports)).0)
    from e x own (inr (low, high, root)) = inr (omega (arith, own, low))

    by : (e : ℕ) (o : Option LivingExport)
        → export_at (table_of m.exports m.last_export exports choose).exports e ≡ o → is_some o ≡ true
        → (lives_in m.exports e ≡ true) ⊎ (m.last_export < e)
    by e None at some = cc
    by e (Some x) at some = from e x
        (export-number (table_of m.exports m.last_export exports choose).exports e x at)
        (export-all (IsHere m exports choose) (table_of m.exports m.last_export exports choose).exports e x
        (comes m.exports (λ e. (choose e).number) m.last_export (m.last_export + new_count m.exports exports)
        m.last_export exports (omega arith) (omega arith)) at)

-- ---- names
-- a name leads to what lives in its directory's export
named-export : (m : State) (directory o : Living) (n : ℕ) (es : List Entry)
    → AllByRecursion (Leads m directory) es → 1 ≤ count_by (λ (e : Entry). e.number == n) es
    → get m.objects n ≡ Some o → directory.export ≡ o.export
named-export m directory o n [] leads some at =
    absurd (let none : count_by (λ (e : Entry). e.number == n) [] ≡ 0 = refl in omega (arith, none, some))
named-export m directory o n (e ∷ es) leads some at =
    elim (e.number == n) as (λ b. (e.number == n) ≡ b → directory.export ≡ o.export) [
      | true ↦ λ same.
          let both : Some leads.0.object ≡ Some o = sym leads.0.lives
          ∙ ap (get m.objects) ((unsigned_Decides e.number n).0 same) ∙ at in
          let one : leads.0.object ≡ o = cc in
          sym leads.0.export ∙ ap (λ (x : Living). x.export) one
      | false ↦ λ other. named-export m directory o n es leads.1
          (let more = sum_by-cons (λ (e : Entry). cond {A = ℕ} (e.number == n) 1 0) e es in
          let none : cond {A = ℕ} (e.number == n) 1 0 ≡ 0 = ap (λ b. cond {A = ℕ} b 1 0) other in
          omega (arith, some, more, none)) at
    ] refl

-- ---- the state
module _ (k : StoreMeaning) (exports : List ExportValue) (choose : ℕ → RootChoice) (now : Time) where
  abbrev m : State
  m = k.state

  abbrev count : ℕ
  count = new_count m.exports exports

  abbrev table : ExportTableValue
  table = table_of m.exports m.last_export exports choose

  abbrev kept : StoreMeaning
  kept = with_table k table

  abbrev pub end : StoreMeaning
  end = roots_made now choose m.last_export count kept

  abbrev spent : ℕ → ℕ → Bool
  spent = end.state.spent

  abbrev new : State
  new = replaced m exports choose spent now

  pub state-is : end.state ≡ new
  state-is = state-made now choose m.last_export kept count

  -- what is chosen is free in the state before, and given for the first time
  pub record AreGiven : Type 0 where
    pub number : (e : ℕ) → m.last_export < e → e ≤ m.last_export + count → (choose e).number < 2 ^ 64
    pub generation : (e : ℕ) → m.last_export < e → e ≤ m.last_export + count → (choose e).generation < 2 ^ 64
    pub free : (e : ℕ) → m.last_export < e → e ≤ m.last_export + count → get m.objects (choose e).number ≡ None
    pub never : (e : ℕ) → m.last_export < e → e ≤ m.last_export + count →
        m.spent (choose e).number (choose e).generation ≡ false
    pub apart : (e f : ℕ) → m.last_export < e → e < f → f ≤ m.last_export + count →
        ((choose e).number == (choose f).number) ≡ false

  module _ (given : AreGiven) where
    pub fresh : AreFreshRoots m choose spent m.last_export count
    fresh = record {
      fresh = λ e low high. record {
        number_fits = given.number e low high;
        generation_fits = given.generation e low high;
        free = given.free e low high;
        never_given = given.never e low high;
        given = spent-made now choose m.last_export kept count e low high;
        kept = λ n g was. spent-stays now choose m.last_export kept count n g was;
      };
      apart = given.apart;
      kept = λ n g was. spent-stays now choose m.last_export kept count n g was;
    }

    stays-free : (e : ℕ) → m.last_export < e → e ≤ m.last_export + count
        → get (staying table.exports m.objects) (choose e).number ≡ None
    stays-free e low high = by (get (staying table.exports m.objects) (choose e).number) refl
      where
        by : (o : Option Living) → get (staying table.exports m.objects) (choose e).number ≡ o → o ≡ None
        by None at = refl
        by (Some o) at = (let both : None ≡ Some o = sym (given.free e low high)
            ∙ stayed m table (choose e).number o at in cc)

    free-roots : AreFree now choose m.last_export kept count
    free-roots = record { fit = given.number; free = stays-free; apart = given.apart }

    module _ (faultless : AreFaultless exports) (room : is_exhausted m.exports m.last_export exports ≡ false)
        (w : WellFormed m) (sound : Sound k) (fit : AllFit m) where
      fits : m.last_export < m.last_export + count → m.last_export + count < 2 ^ 32
      fits = room-fits m.exports m.last_export exports room

      abbrev Old : (n : ℕ) (o : Living) → Type 0
      Old n o = IsOld m exports choose spent now fresh n o

      abbrev New : (n : ℕ) (o : Living) → Type 0
      New n o = IsNew m exports choose spent now fresh n o

      abbrev on-there : (n : ℕ) (o : Living) → get m.objects n ≡ Some o → lives_in table.exports o.export ≡ true
          → get new.objects n ≡ Some o
      on-there = on m exports choose spent now fresh

      -- what is kept where an object lives on
      kept-on : (f : ℕ → ℕ) (n : ℕ) (o : Living) → Old n o
          → cond (is_some (get (staying table.exports m.objects) n)) (f n) 0 ≡ f n
      kept-on f n o was = ap (λ x. cond (is_some x) (f n) 0)
          (got m exports choose spent now fresh n
          ∙ ap (λ (x : Option Living). cond (option_map_or (λ (y : Living). lives_in table.exports y.export) x false) x
          None) was.at
          ∙ ap (λ b. cond b (Some o) None) was.lives)

      counts-on : (n : ℕ) (o : Living) → Old n o → count_by (is_subdirectory new) (entries_of o.content) ≡
          count_by (is_subdirectory m) (entries_of o.content)
      counts-on n o was = counts-same m new (entries_of o.content)
          (all_map (Leads m o) (λ (e : Entry). is_subdirectory new e ≡ is_subdirectory m e)
          (λ e leads. ap is_living_directory (on-there e.number leads.object leads.lives
          (ap (lives_in table.exports) leads.export ∙ was.lives) ∙ sym leads.lives)) (entries_of o.content)
          (w.names n o was.at).leads)

      links-right : (n : ℕ) (o : Living) → get new.objects n ≡ Some o → end.links n ≡ links_of new n o.content
      links-right n o at = elim (what-lives m exports choose spent now fresh n o at) [
        | inl was ↦
            links-stay now choose m.last_export kept count n
            (lived-elsewhere m exports choose spent now fresh n o was.at)
            ∙ kept-on k.links n o was ∙ sound.links n o was.at
            ∙ sym (links-same m new n o.content
            (names-kept m exports choose spent now fresh w faultless fits n o o was.at at) (counts-on n o was))
        | inr r ↦
            ap end.links (sym r.at) ∙ links-made now choose m.last_export kept count r.e r.within.0 r.within.1
            ∙ ap (λ (x : Living). links_of new n x.content) r.is
      ]

      parent-on : (n parent : ℕ) (o : Living) → Old n o → IsParent m n parent → IsParent new n parent
      parent-on n parent o was p = elim p.named_in [
        | inl root ↦ record {
          directory = o;
          lives = ap (get new.objects) root.0 ∙ on-there n o was.at was.lives;
          named_in = inl (
            root.0,
            still-root m exports choose spent now fresh w faultless fits n o was.at was.lives root.1,
          );
        }
        | inr named ↦ record {
          directory = p.directory;
          lives = on-there parent p.directory p.lives (ap (lives_in table.exports)
              (named-export m p.directory o n (entries_of p.directory.content)
              (w.names parent p.directory p.lives).leads named was.at) ∙ was.lives);
          named_in = inr named;
        }
      ]

      parents-right : (n : ℕ) (o : Living) → get new.objects n ≡ Some o → is_directory o.content ≡ true
          → IsParent new n (end.parents n)
      parents-right n o at directory = elim (what-lives m exports choose spent now fresh n o at) [
        | inl was ↦ subst (IsParent new n)
            (sym (parents-stay now choose m.last_export kept count n
            (lived-elsewhere m exports choose spent now fresh n o was.at) ∙ kept-on k.parents n o was))
            (parent-on n (k.parents n) o was (sound.parents n o was.at directory))
        | inr r ↦ subst (IsParent new n)
            (sym (ap end.parents (sym r.at)
            ∙ parents-made now choose m.last_export kept count r.e r.within.0 r.within.1 ∙ r.at))
            (record {
              directory = o;
              lives = at;
              named_in = inl (
                refl,
                ap (is_root new) (sym r.at)
                    ∙ is-new-root m exports choose spent now fresh w faultless fits r.e r.within,
              );
            })
      ]

      usage-right : (e g : ℕ) → end.usage e g ≡ usage_in new e g
      usage-right e g =
          usage-made now choose m.last_export kept (λ n o at. fit n o (stayed m table n o at))
          (table-usage k table (table-follows m exports choose w.exports.numbered) w sound) count free-roots e g
          ∙ ap (λ (x : State). usage_in x e g) state-is

      pub end-sound : Sound end
      end-sound =
          let same : end ≡ record end { state = new } = λ i. record end { state = state-is i } in
          subst Sound (sym same) (record { links = links-right; parents = parents-right; usage = usage-right })

      pub end-step : (ctx : Ctx) → now ≡ time_of ctx.moment → ReplaceStep m ctx exports [] end.state
      unfolding ReplaceStep
      end-step ctx is = (
        faultless,
        refl,
        subst (StepUnless m (time_of ctx.moment) exports end.state) (sym room)
            (subst (λ t. Replaces m t exports end.state) is
            (record { choose = choose; spent = spent; fresh = fresh; state_is = state-is })),
      )

pub exhausted-step : (m : State) (ctx : Ctx) (exports : List ExportValue) → AreFaultless exports
    → is_exhausted m.exports m.last_export exports ≡ true → ReplaceStep m ctx exports [] m
unfolding ReplaceStep
exhausted-step m ctx exports faultless full = (
  faultless,
  refl,
  subst (StepUnless m (time_of ctx.moment) exports m) (sym full) refl,
)
