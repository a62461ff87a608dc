-- The call that replaces the exports: what it does is the machine's step, and what it may ask for.
use Rattle.std.proofs.Common.{◌≡◌, ◌==◌, ◌⊎◌, ◌+◌, ◌-◌, ◌<◌, ◌≤◌, ◌^◌, ℕ, zero, suc, true, false, cond, min}
use Rattle.std.proofs.Common.{List, [], ◌∷◌, Option, Some, None, option_map, length, take, get_or}
use Rattle.std.proofs.Common.{Result, Ok, Err, inl, inr, refl, sym, ◌∙◌, ap, subst, arith}
use Rattle.std.proofs.lemmas.Bool.{lt-leb}
use Rattle.std.proofs.lemmas.Option.{slice_get-get_or}
use Rattle.std.specs.FinMap.{get}
use Rattle.std.specs.List.{AllByRecursion}
use Rattle.std.specs.Prelude.{MatchResult, OnOk, slice_get}
use Rattle.nfs_machine.proofs.ReplacedStateLemmas.{is-numbered}
use Rattle.nfs_machine.specs.ExportFaults.{AreFaultless}
use Rattle.nfs_machine.specs.Exports.{ExportValue, LivingExport}
use Rattle.nfs_machine.specs.Replacing.{ReplaceStep, RootChoice, is_exhausted, new_count, renumbered}
use Rattle.nfs_machine.specs.State.{State}
use Rattle.nfs_machine.specs.Times.{time_of}
use Rattle.nfs_machine.specs.WellFormed.{IsNumbered}
use Rattle.nfs_machine.specs.declared.calls.Call.TheVariants as calls
use Rattle.nfs_machine.specs.declared.calls.Reply.TheVariants as answers
use Rattle.nfs_objects.proofs.KnowsLemmas.{covers-among, lacks-stops, numbers-stop, stops-wider}
use Rattle.nfs_objects.proofs.PromiseLemmas.{promised, turns-both, turns-none}
use Rattle.nfs_objects.proofs.SeenLemmas.{all-map, known-stands, shown-stands, written-append}
use Rattle.nfs_objects.proofs.UsageSumLemmas.{AllFit, all-fit}
use Rattle.nfs_objects.specs.Asks.{AreFirst, Lacks, WantsNumbers}
use Rattle.nfs_objects.specs.Attempt.{EndsCall, StopsCall}
use Rattle.nfs_objects.specs.Begins.{Begins}
use Rattle.nfs_objects.specs.Bound.{HasNumbers}
use Rattle.nfs_objects.specs.Calls.{IsAmong, exports_shown, named_by, new_numbers, root_usages, roots_for}
use Rattle.nfs_objects.specs.ExportTables.{ExportTableValue, IsExportTable}
use Rattle.nfs_objects.specs.Fits.{Fits, HoldsReserved, IsView, NumbersApart, vacant}
use Rattle.nfs_objects.specs.Knows.{Possible, Shows, Turns}
use Rattle.nfs_objects.specs.Promise.{Given, Held, IsPromised, IsReserved}
use Rattle.nfs_objects.specs.Replaced.{with_table}
use Rattle.nfs_objects.specs.Roots.{choice_of, root_choice}
use Rattle.nfs_objects.specs.Sound.{Sound}
use Rattle.nfs_objects.specs.Stands.{StoreMeaning, Represents, beside_at, export_table_of, lives_in, living_in}
use Rattle.nfs_objects.specs.Store.{Store, with_writes}
use Rattle.nfs_objects.specs.Values.{DraftValue, Seen, done_value, known_at, seen_at, shown_at, with_written}
use Rattle.nfs_objects.specs.Values.{written_at}
use Rattle.nfs_objects.specs.declared.address.Addr.{Addr}
use Rattle.nfs_objects.specs.declared.address.Addr.TheVariants as addresses
use Rattle.nfs_objects.specs.declared.change.Missing.{Missing}
use Rattle.nfs_objects.specs.declared.object.Object.{Object}
use Rattle.nfs_objects.specs.declared.object.Object.TheVariants as objects
use Rattle.nfs_objects.specs.declared.view.Reserved.{Reserved}
use Rattle.nfs_inodes.proofs.ReaderHaltLemmas.{stops-before}
use Rattle.nfs_inodes.specs.Roots.{Follows, ReservedFits, roots_made}
use Rattle.nfs_inodes.specs.Stops.{StopsAt}
use Rattle.nfs_mount.proofs.NewExportsLemmas.{AreGiven, end, end-sound, end-step, exhausted-step, table-follows}
use Rattle.nfs_mount.proofs.NewExportsLemmas.{table_of}
use Rattle.nfs_mount.specs.Replaces.{AwaitsRoots, ReplacesExports, StopsReplacing}

-- ---- lists
all-take : {X : Type 0} (P : X → Type 0) (xs : List X) (n : ℕ) → AllByRecursion P xs → AllByRecursion P (take n xs)
all-take P [] zero all = tt
all-take P [] (suc n) all = tt
all-take P (x ∷ xs) zero all = tt
all-take P (x ∷ xs) (suc n) all = (all.0, all-take P xs n all.1)

all-got : {X : Type 0} (P : X → Type 0) (xs : List X) (i : ℕ) (d : X) → AllByRecursion P xs → i < length xs
    → P (get_or xs i d)
all-got P [] i d all within = absurd (omega (arith, within))
all-got P (x ∷ xs) zero d all within = all.0
all-got P (x ∷ xs) (suc i) d all within = all-got P xs i d all.1 (omega (arith, within))

apart-got : (roots : List Reserved) (i j : ℕ) (d : Reserved) → NumbersApart roots → i < j → j < length roots
    → ((get_or roots i d).number == (get_or roots j d).number) ≡ false
apart-got [] i j d apart less within = absurd (omega (arith, within))
apart-got (r ∷ roots) i zero d apart less within = absurd (omega (arith, less))
apart-got (r ∷ roots) zero (suc j) d apart less within =
    all-got (λ (q : Reserved). (r.number == q.number) ≡ false) roots j d apart.0 (omega (arith, within))
apart-got (r ∷ roots) (suc i) (suc j) d apart less within =
    apart-got roots i j d apart.1 (omega (arith, less)) (omega (arith, within))

-- each of these is reserved
places : (before roots : List Reserved) (all : List Reserved)
    → ((i : ℕ) → slice_get all (length before + i) ≡ slice_get roots i)
    → AllByRecursion (λ (r : Reserved). (i : ℕ) × (slice_get all i ≡ Some r)) roots
places before [] all same = tt
places before (r ∷ roots) all same = (
  (length before + 0, same 0),
  places (r ∷ before) roots all (λ i. ap (slice_get all) (let next : suc (length before) + i ≡ length before + suc i =
      omega arith in next) ∙ same (suc i)),
)

-- ---- the table
module _ (d : DraftValue) (none : d.writes ≡ []) (table : ExportTableValue)
    (known : option_map export_table_of (known_at d addresses.Exports) ≡ Some table) where
  shown-is : exports_shown d.view ≡ Some table
  shown-is = ap (λ ws. option_map export_table_of (written_at (shown_at d.view.entries addresses.Exports) ws
      addresses.Exports)) (sym none) ∙ known

  -- in each store
  pub table-stands : (s : Store) (k : StoreMeaning) → Fits d.view s → Represents (with_writes s d.writes) k
      → (k.state.exports ≡ table.exports) × (k.state.last_export ≡ table.last)
  table-stands s k fits stands = by (known_at d addresses.Exports) refl known
    where
      by : (o : Option (Option Object)) → known_at d addresses.Exports ≡ o → option_map export_table_of o ≡ Some table
          → (k.state.exports ≡ table.exports) × (k.state.last_export ≡ table.last)
      by None at is = cc
      by (Some o) at is =
          let same : export_table_of o ≡ table = cc in
          let there : export_table_of ((with_writes s d.writes).at addresses.Exports) ≡ table =
          ap export_table_of (known-stands d s addresses.Exports o fits at) ∙ same in (
            stands.tables.exports ∙ ap (λ (t : ExportTableValue). t.exports) there,
            stands.tables.last_export ∙ ap (λ (t : ExportTableValue). t.last) there,
          )

  -- ---- what the call wants and names
  module _ (exports : List ExportValue) where
    abbrev count : ℕ
    count = new_count table.exports exports

    wanted-is : is_exhausted table.exports table.last exports ≡ false → count ≤ 64
        → new_numbers (calls.Replace exports) d.view ≡ count
    wanted-is room few =
        ap (λ (o : Option ExportTableValue). elim o [ None ↦ 0 | Some t ↦ roots_for exports t ]) shown-is
        ∙ ap (λ b. cond {A = ℕ} b 0 (min count 64)) room ∙ (let all : min count 64 ≡ count = omega (arith, few) in all)

    pub has-numbers : is_exhausted table.exports table.last exports ≡ false → count ≤ 64
        → HasNumbers (calls.Replace exports) d.view → (d.view.reserved ≡ []) ⊎ (count ≤ length d.view.reserved)
    has-numbers room few (inl empty) = inl empty
    has-numbers room few (inr enough) = inr (subst (λ n. n ≤ length d.view.reserved) (wanted-is room few) enough)

    pub roots-stop : is_exhausted table.exports table.last exports ≡ false → count ≤ 64 → (halt : Missing)
        → WantsNumbers d count halt → StopsReplacing d exports halt
    roots-stop room few halt wants =
        subst (λ n. StopsCall d.modes (named_by (calls.Replace exports) d.view) n d.view halt)
        (sym (wanted-is room few))
        (numbers-stop d (named_by (calls.Replace exports) d.view) count halt wants)

    usages-front : (last n more : ℕ) (roots : List Reserved) (a : Addr) → n ≤ more
        → IsAmong (root_usages last (take n roots)) a → IsAmong (root_usages last (take more roots)) a
    usages-front last zero more [] a less among = absurd among
    usages-front last (suc n) more [] a less among = absurd among
    usages-front last zero more (r ∷ roots) a less among = absurd among
    usages-front last (suc n) zero (r ∷ roots) a less among = absurd (omega (arith, less))
    usages-front last (suc n) (suc more) (r ∷ roots) a less (inl same) = inl same
    usages-front last (suc n) (suc more) (r ∷ roots) a less (inr among) =
        inr (usages-front (suc last) n more roots a (omega (arith, less)) among)

    pub usages-stop : count ≤ 64 → (roots : List Reserved) → roots ≡ take count d.view.reserved → (halt : Missing)
        → StopsAt d (root_usages table.last roots) halt → StopsReplacing d exports halt
    usages-stop few roots first halt stops =
        stops-wider d.modes (root_usages table.last roots) (named_by (calls.Replace exports) d.view)
        (new_numbers (calls.Replace exports) d.view) d.view halt
        (covers-among (root_usages table.last roots) (named_by (calls.Replace exports) d.view) d.view (λ a among.
        inr (subst (λ (o : Option ExportTableValue). IsAmong (elim o [
          | None ↦ []
          | Some t ↦ root_usages t.last (take 64 d.view.reserved)
        ]) a) (sym shown-is) (usages-front table.last count 64 d.view.reserved a few
        (subst (λ rs. IsAmong (root_usages table.last rs) a) first among))))) stops

  -- ---- what it comes to
  pub exhausted-replaces : (exports : List ExportValue) → AreFaultless exports
      → is_exhausted table.exports table.last exports ≡ true → ReplacesExports d d exports
  exhausted-replaces exports faultless full = record {
    op = λ k. k;
    turns = turns-none d;
    sound = λ s k w formed. w.sound;
    steps = λ s k w formed.
        let is = table-stands s k w.fits w.stands in
        exhausted-step k.state d.ctx exports faultless
        (ap (λ (es : List LivingExport). is_exhausted es k.state.last_export exports) is.0
        ∙ ap (λ n. is_exhausted table.exports n exports) is.1 ∙ full);
  }

  module _ (exports : List ExportValue) (roots : List Reserved)
      (first : AreFirst d (new_count table.exports exports) roots) (made : ExportTableValue)
      (listed : made.exports ≡ renumbered table.exports (λ n. (root_choice roots table.last n).number) table.last
      exports) (last-is : made.last ≡ table.last + new_count table.exports exports) where
    abbrev choose : ℕ → RootChoice
    choose = root_choice roots table.last

    -- the table that was made is that of each state
    made-is : (m : State) → m.exports ≡ table.exports → m.last_export ≡ table.last
        → table_of m.exports m.last_export exports choose ≡ made
    made-is m same last =
        (λ i. table_of (same i) (last i) exports choose)
        ∙ (λ i. record { exports = sym listed i; last = sym last-is i })

    pub made-follows : IsExportTable table → Shows d (λ k. Follows k.state made)
    made-follows is s k fits stands =
        let at = table-stands s k fits stands in
        subst (Follows k.state) (made-is k.state at.0 at.1)
        (table-follows k.state exports choose (subst (λ es. AllByRecursion (IsNumbered k.state.last_export) es)
        (sym at.0) (subst (λ n. AllByRecursion (IsNumbered n) table.exports) (sym at.1) is.numbered)))

    -- each new number lives
    new-lives : (e : ℕ) → table.last < e → e ≤ table.last + length roots → lives_in made.exports e ≡ true
    new-lives e low high = ap (λ es. lives_in es e) listed
        ∙ is-numbered table.exports (λ n. (choose n).number) e table.last exports low
        (let counted = first.counted in omega (arith, high, counted))

    written : (o : Option Object) (n : ℕ)
        → known_at (with_written d addresses.Exports o) (addresses.Inode n) ≡ known_at d (addresses.Inode n)
    written o n = written-append d.writes (shown_at d.view.entries (addresses.Inode n)) addresses.Exports o
        (addresses.Inode n)

    vacant-known : HoldsReserved d.view
        → AllByRecursion (λ (r : Reserved). known_at d (addresses.Inode r.number) ≡ Some None) d.view.reserved
    vacant-known holds =
        all-map (λ (r : Reserved). seen_at d.view.entries (addresses.Inode r.number) ≡ Some (vacant r))
        (λ (r : Reserved). known_at d (addresses.Inode r.number) ≡ Some None)
        (λ r seen. ap (λ ws. written_at (shown_at d.view.entries (addresses.Inode r.number)) ws
        (addresses.Inode r.number)) none ∙ ap (option_map (λ (e : Seen). e.object)) seen) d.view.reserved holds

    pub awaits-roots : Begins (calls.Replace exports) d → IsView d.view → (new : DraftValue)
        → new ≡ with_written d addresses.Exports (Some (objects.Exports made)) → AwaitsRoots new table.last roots
    awaits-roots begins view new is = subst (λ (x : DraftValue). AwaitsRoots x table.last roots) (sym is) (record {
      modes = begins.modes;
      table = made;
      known = written-append d.writes (shown_at d.view.entries addresses.Exports) addresses.Exports
          (Some (objects.Exports made)) addresses.Exports;
      lives = new-lives;
      vacant = subst (λ rs. AllByRecursion (λ (r : Reserved). known_at (with_written d addresses.Exports
          (Some (objects.Exports made))) (addresses.Inode r.number) ≡ Some None) rs) (sym first.first)
          (all-take (λ (r : Reserved). known_at (with_written d addresses.Exports (Some (objects.Exports made)))
          (addresses.Inode r.number) ≡ Some None) d.view.reserved (new_count table.exports exports)
          (all-map (λ (r : Reserved). known_at d (addresses.Inode r.number) ≡ Some None)
          (λ (r : Reserved). known_at (with_written d addresses.Exports (Some (objects.Exports made)))
          (addresses.Inode r.number) ≡ Some None) (λ r free. written (Some (objects.Exports made)) r.number ∙ free)
          d.view.reserved (vacant-known view.held)));
      reserved = subst (λ rs. AllByRecursion (λ (r : Reserved). IsReserved d.view r.number r.generation) rs)
          (sym first.first)
          (all-take (λ (r : Reserved). IsReserved d.view r.number r.generation) d.view.reserved
          (new_count table.exports exports)
          (all-map (λ (r : Reserved). (i : ℕ) × (slice_get d.view.reserved i ≡ Some r))
          (λ (r : Reserved). IsReserved d.view r.number r.generation) (λ r at. at) d.view.reserved
          (places [] d.view.reserved d.view.reserved
          (λ i. ap (slice_get d.view.reserved) (let first : 0 + i ≡ i = omega arith in first)))));
      apart = first.apart;
    })

    -- ---- in each state
    -- a number that is reserved is free there
    abbrev IsUnused : State → Reserved → Type 0
    IsUnused m r = (get m.objects r.number ≡ None) × (m.spent r.number r.generation ≡ false)

    unused : (s : Store) (k : StoreMeaning) → Possible d s k → AllByRecursion (IsUnused k.state) d.view.reserved
    unused s k w =
        let stands : Represents s k = subst (λ ws. Represents (with_writes s ws) k) none w.stands in
        all-map (λ (r : Reserved). (seen_at d.view.entries (addresses.Inode r.number) ≡ Some (vacant r))
        × (s.last r.number < r.generation)) (IsUnused k.state) (λ r is. (
          stands.objects.objects r.number ∙ ap (living_in k.state.exports (beside_at k.state r.number))
              (shown-stands d.view.entries s.at (addresses.Inode r.number) None w.fits.entries
              (ap (option_map (λ (e : Seen). e.object)) is.0)),
          stands.objects.spent r.number r.generation ∙ lt-leb r.generation (s.last r.number) is.1,
        )) d.view.reserved w.fits.reserved

    module _ (s : Store) (k : StoreMeaning) (w : Possible d s k) (fit : AllByRecursion ReservedFits roots) where
      at-state : (k.state.exports ≡ table.exports) × (k.state.last_export ≡ table.last)
      at-state = table-stands s k w.fits w.stands

      free-roots : AllByRecursion (IsUnused k.state) roots
      free-roots = subst (AllByRecursion (IsUnused k.state)) (sym first.first)
          (all-take (IsUnused k.state) d.view.reserved (new_count table.exports exports) (unused s k w))

      count-is : new_count k.state.exports exports ≡ length roots
      count-is = ap (λ (es : List LivingExport). new_count es exports) at-state.0 ∙ sym first.counted

      abbrev no-root : Reserved
      no-root = record { number = 0; generation = 0 }

      abbrev place : ℕ → ℕ
      place e = e - suc table.last

      abbrev root-of : ℕ → Reserved
      root-of e = get_or roots (place e) no-root

      within : (e : ℕ) → k.state.last_export < e → e ≤ k.state.last_export + new_count k.state.exports exports
          → place e < length roots
      within e low high =
          let last = at-state.1 in let count = count-is in omega (arith, low, high, last, count)

      choice-is : (e : ℕ) → k.state.last_export < e → e ≤ k.state.last_export + new_count k.state.exports exports
          → choose e ≡ choice_of (Some (root-of e))
      choice-is e low high = ap choice_of (slice_get-get_or roots (place e) no-root (within e low high))

      given : AreGiven k exports choose (time_of d.ctx.moment)
      given = record {
        number = λ e low high. subst (λ (c : RootChoice). c.number < 2 ^ 64) (sym (choice-is e low high))
            (all-got ReservedFits roots (place e) no-root fit (within e low high)).number;
        generation = λ e low high. subst (λ (c : RootChoice). c.generation < 2 ^ 64) (sym (choice-is e low high))
            (all-got ReservedFits roots (place e) no-root fit (within e low high)).generation;
        free = λ e low high. subst (λ (c : RootChoice). get k.state.objects c.number ≡ None)
            (sym (choice-is e low high))
            (all-got (IsUnused k.state) roots (place e) no-root free-roots (within e low high)).0;
        never = λ e low high. subst (λ (c : RootChoice). k.state.spent c.number c.generation ≡ false)
            (sym (choice-is e low high))
            (all-got (IsUnused k.state) roots (place e) no-root free-roots (within e low high)).1;
        apart = λ e f low between high.
            let last = at-state.1 in
            subst (λ (c : RootChoice). (c.number == (choose f).number) ≡ false)
            (sym (choice-is e low (omega (arith, between, high))))
            (subst (λ (c : RootChoice). ((root-of e).number == c.number) ≡ false)
            (sym (choice-is f (omega (arith, low, between)) high))
            (apart-got roots (place e) (place f) no-root first.apart (omega (arith, low, between, last))
            (within f (omega (arith, low, between)) high)));
      }

      -- what the call does is what is done in this state
      same-end : roots_made (time_of d.ctx.moment) choose table.last (length roots) (with_table k made) ≡
          end k exports choose (time_of d.ctx.moment)
      same-end = λ i. roots_made (time_of d.ctx.moment) choose (sym at-state.1 i) (sym count-is i)
          (with_table k (sym (made-is k.state at-state.0 at-state.1) i))

      room-there : is_exhausted table.exports table.last exports ≡ false
          → is_exhausted k.state.exports k.state.last_export exports ≡ false
      room-there room =
          ap (λ (es : List LivingExport). is_exhausted es k.state.last_export exports) at-state.0
          ∙ ap (λ n. is_exhausted table.exports n exports) at-state.1 ∙ room

    pub exports-replaced : AreFaultless exports → is_exhausted table.exports table.last exports ≡ false
        → (mid new : DraftValue) → Turns d mid (λ k. with_table k made)
        → Turns mid new (roots_made (time_of mid.ctx.moment) choose table.last (length roots))
        → AllByRecursion ReservedFits roots → ReplacesExports d new exports
    exports-replaced faultless room mid new puts makes fit = record {
      op = λ k. roots_made (time_of d.ctx.moment) choose table.last (length roots) (with_table k made);
      turns = turns-both d mid new (λ k. with_table k made)
          (roots_made (time_of d.ctx.moment) choose table.last (length roots)) puts
          (subst (λ ctx. Turns mid new (roots_made (time_of ctx.moment) choose table.last (length roots))) puts.ctx
          makes);
      sound = λ s k w formed. subst Sound (sym (same-end s k w fit))
          (end-sound k exports choose (time_of d.ctx.moment) (given s k w fit) faultless (room-there s k w fit room)
          formed w.sound (fits-there s k w));
      steps = λ s k w formed. subst (λ (x : StoreMeaning). ReplaceStep k.state d.ctx exports [] x.state)
          (sym (same-end s k w fit))
          (end-step k exports choose (time_of d.ctx.moment) (given s k w fit) faultless (room-there s k w fit room)
          formed w.sound (fits-there s k w) d.ctx refl);
    }
      where
        fits-there : (s : Store) (k : StoreMeaning) → Possible d s k → AllFit k.state
        fits-there s k w = all-fit (with_writes s d.writes) k w.stands

    -- the same of a result that is handed on
    pub made-replaces : {A : Type 0} → AreFaultless exports → is_exhausted table.exports table.last exports ≡ false
        → new_count table.exports exports ≤ 64 → (mid new : DraftValue) → Turns d mid (λ k. with_table k made)
        → (r : Result A Missing)
        → MatchResult r (λ _. Turns mid new (roots_made (time_of mid.ctx.moment) choose table.last (length roots)))
        (StopsAt mid (root_usages table.last roots))
        → OnOk r (AllByRecursion ReservedFits roots)
        → MatchResult r (λ _. ReplacesExports d new exports) (StopsReplacing d exports)
    made-replaces faultless room few mid new puts (Ok x) makes fit =
        exports-replaced faultless room mid new puts makes fit
    made-replaces faultless room few mid new puts (Err halt) stops fit =
        usages-stop exports few roots first.first halt
        (stops-before d mid (λ k. with_table k made) (λ v. root_usages table.last roots) halt puts stops)

-- the exports are named by the call
pub exports-stop : (d : DraftValue) (exports : List ExportValue) (halt : Missing) → Lacks d addresses.Exports halt
    → StopsReplacing d exports halt
exports-stop d exports halt lacks =
    lacks-stops d (named_by (calls.Replace exports) d.view) (new_numbers (calls.Replace exports) d.view)
    addresses.Exports halt lacks (inl (inl refl))

-- ---- the end of the call
module _ (d : DraftValue) (exports : List ExportValue) (begins : Begins (calls.Replace exports) d) where
  pub stopped : (halt : Missing) → StopsReplacing d exports halt
      → EndsCall (calls.Replace exports) d.ctx d.view (Err halt)
  stopped halt stops = subst (λ modes. StopsCall modes (named_by (calls.Replace exports) d.view)
      (new_numbers (calls.Replace exports) d.view) d.view halt) begins.modes stops

  pub replaces-promised : (new : DraftValue) → ReplacesExports d new exports → Held new.view new.writes
      → Given new.view new.writes
      → IsPromised (done_value (calls.Replace exports) d.ctx d.view
      (record { writes = new.writes; messages = new.messages; reply = answers.Replaced }))
  replaces-promised new replaces held given =
      promised d new replaces.op begins.none begins.quiet replaces.turns (calls.Replace exports) answers.Replaced held
      given (λ s k w formed. (replaces.sound s k w formed, λ after. replaces.steps s k w formed))
