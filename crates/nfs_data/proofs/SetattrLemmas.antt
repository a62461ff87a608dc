-- What SETATTR answers, and the object after it, are an end of the machine.
use Rattle.std.proofs.Common.{◌≡◌, ◌==◌, ℕ, true, false, Bool, cond, List, Option, Some, None, Result, Ok}
use Rattle.std.proofs.Common.{Err, refl}
use Rattle.std.proofs.Common.{IfSome, is_none, sym, ap, option_map, subst, ◌∙◌}
use Rattle.std.specs.Cmp.{nat_cmp_total, unsigned_Decides}
use Rattle.std.specs.FinMap.{FinMap, get, insert, nat_cmp-IsAntisymmetric, same_map}
use Rattle.std.specs.Ordering.{nat_cmp}
use Rattle.nfs_wire.specs.declared.attributes.FileType.TheVariants as types
use Rattle.nfs_wire.specs.declared.attributes.Time.{Time}
use Rattle.nfs_wire.specs.declared.calls.SetattrArguments.{SetattrArguments}
use Rattle.nfs_wire.specs.declared.status.NfsStatus.{NfsStatus}
use Rattle.nfs_machine.proofs.MapSumLemmas.{get-inserted}
use Rattle.nfs_machine.specs.AttributeSteps.{set_object, setattr_end}
use Rattle.nfs_machine.specs.Attributes.{type_of}
use Rattle.nfs_machine.specs.Data.{resized}
use Rattle.nfs_machine.specs.Exports.{LivingExport}
use Rattle.nfs_machine.specs.Shown.{attributes_at, with_content, with_object}
use Rattle.nfs_machine.specs.State.{Content, Regular, Living, State}
use Rattle.nfs_machine.specs.Times.{time_of}
use Rattle.nfs_machine.specs.declared.context.Ctx.{Ctx}
use Rattle.nfs_objects.proofs.KnowsLemmas.{failed, passed}
use Rattle.nfs_objects.proofs.PromiseLemmas.{does-nothing, turns-both}
use Rattle.nfs_objects.proofs.UsageSumLemmas.{AllFit, turned-fit}
use Rattle.nfs_objects.specs.Edits.{counted_anew, with_living}
use Rattle.nfs_objects.specs.Knows.{Does, Knows, Possible, Turns}
use Rattle.nfs_objects.specs.Sound.{Sound}
use Rattle.nfs_objects.specs.Stands.{StoreMeaning}
use Rattle.nfs_objects.specs.Store.{Store}
use Rattle.nfs_objects.specs.Values.{DraftValue}
use Rattle.nfs_inodes.proofs.KeptBesideLemmas.{attributes-sound, bytes-is, bytes-sound, changed-is}
use Rattle.nfs_inodes.proofs.StandsLemmas.{kind-is, regular-bytes, shown-none, shown-some}
use Rattle.nfs_inodes.specs.Kinds.{IsShown}
use Rattle.nfs_inodes.specs.Known.{IsKnown, IsObject, Names, bytes_of, content_at, object_at, shell}
use Rattle.nfs_inodes.specs.Makes.{size_set}
use Rattle.nfs_inodes.specs.Sets.{attributes_changed, with_settings}
use Rattle.nfs_inodes.specs.declared.found.Known.{Known}
use Rattle.nfs_inodes.specs.declared.setting.Settings.{Settings}
use Rattle.nfs_data.specs.Settings.{IsSetEnd, IsSizeOf, content_after, set_found, settings_after}
use Rattle.nfs_data.specs.declared.setattr.NewSize.{NewSize}

-- an object in the place of another, which was put there just now
put-again : (living : FinMap nat_cmp Living) (n : ℕ) (old new : Living)
    → insert (insert living n old) n new ≡ insert living n new
put-again living n old new = same_map nat_cmp_total nat_cmp-IsAntisymmetric _ _ (λ q.
    get-inserted (insert living n old) n new q ∙ ap (cond (q == n) (Some new)) (get-inserted living n old q)
    ∙ both (q == n) (get living q) ∙ sym (get-inserted living n new q))
  where
    both : (b : Bool) (o : Option Living) → cond b (Some new) (cond b (Some old) o) ≡ cond b (Some new) o
    both true o = refl
    both false o = refl

there : (living : FinMap nat_cmp Living) (n : ℕ) (o : Living) → get (insert living n o) n ≡ Some o
there living n o = get-inserted living n o n
    ∙ ap (λ b. cond b (Some o) (get living n)) ((unsigned_Decides n n).1 refl)

-- the state where attributes of what lives at a number are set
settled-state : (k : StoreMeaning) (n : ℕ) (o : Living) (set : Settings) → get k.state.objects n ≡ Some o
    → (attributes_changed n set k).state ≡ with_object k.state n (with_settings set o)
settled-state k n o set lives =
    ap (λ (q : StoreMeaning). q.state)
    (changed-is k n (k.links n) (λ o. Some (with_settings set o)) o (with_settings set o) lives refl)

-- the state with the object of this size and these attributes
abbrev state_set : State → Known → Option ℕ → Settings → State
state_set m x size set = with_object m x.number
    (with_settings set (shell x (content_after (content_at m x.number) size)))

set-state : (k : StoreMeaning) (x : Known) (now : Time) (wanted : Option ℕ) (size : Option NewSize) (set : Settings)
    → IsKnown k.state x → IsSizeOf x wanted size
    → (attributes_changed x.number set (size_set now x.number wanted k)).state ≡ state_set k.state x wanted set
set-state k x now None None set known sized = settled-state k x.number (object_at k.state x) set known.lives
set-state k x now None (Some new) set known sized = absurd sized
set-state k x now (Some wanted) None set known sized = absurd sized
set-state k x now (Some wanted) (Some new) set known sized =
    let file = with_content (object_at k.state x) now
    (Regular (resized (bytes_of (content_at k.state x.number)) wanted)) in
    let regular = subst (λ (y : Known). y.attributes.kind ≡ types.Regular) sized.0 new.file.kind in
    ap (λ (q : StoreMeaning). (attributes_changed x.number set q).state)
    (bytes-is k x now (λ old. resized old wanted) (bytes_of (content_at k.state x.number)) known
    (regular-bytes (content_at k.state x.number) (kind-is k.state x known ∙ regular)))
    ∙ settled-state (counted_anew x.number (get k.state.objects x.number)
    (with_living k x.number file (k.links x.number) (k.parents x.number))) x.number file set
    (there k.state.objects x.number file)
    ∙ ap (λ living. record k.state { objects = living })
    (put-again k.state.objects x.number file (with_settings set file))

sized-sound : (k : StoreMeaning) (n : ℕ) (now : Time) (size : Option ℕ) → Sound k → AllFit (size_set now n size k).state
    → Sound (size_set now n size k)
sized-sound k n now None sound fit = sound
sized-sound k n now (Some size) sound fit = bytes-sound k n now (λ old. resized old size) sound fit

-- ---- the size that the checks found
size-as : (x : Known) (wanted : Option ℕ) (size : Option NewSize) → IsSizeOf x wanted size
    → option_map (λ (s : NewSize). s.size) size ≡ wanted
size-as x None None sized = refl
size-as x None (Some new) sized = absurd sized
size-as x (Some wanted) None sized = absurd sized
size-as x (Some wanted) (Some new) sized = ap (λ n. Some n) sized.1

pub file-as : (x : Known) (wanted : Option ℕ) (size : Option NewSize) → IsSizeOf x wanted size
    → IfSome size (λ (s : NewSize). s.file.known.number ≡ x.number)
file-as x None None sized = tt
file-as x None (Some new) sized = absurd sized
file-as x (Some wanted) None sized = absurd sized
file-as x (Some wanted) (Some new) sized = ap (λ (y : Known). y.number) sized.0

pub file-found : (x : Known) (wanted : Option ℕ) (new : NewSize) → IsSizeOf x wanted (Some new) → new.file.known ≡ x
file-found x None new sized = absurd sized
file-found x (Some size) new sized = sized.0

pub file-shown : (d : DraftValue) (x : Known) (wanted : Option ℕ) (size : Option NewSize) → IsSizeOf x wanted size
    → IsShown d x → IfSome size (λ (s : NewSize). IsShown d s.file.known)
file-shown d x None None sized shown = tt
file-shown d x None (Some new) sized shown = absurd sized
file-shown d x (Some wanted) None sized shown = absurd sized
file-shown d x (Some wanted) (Some new) sized shown = subst (λ (y : Known). IsShown d y) (sym sized.0) shown

pub none-as : (x : Known) (wanted : Option ℕ) (size : Option NewSize) → IsSizeOf x wanted size
    → is_none wanted ≡ true → is_none size ≡ true
none-as x None None sized none = refl
none-as x None (Some new) sized none = absurd sized
none-as x (Some wanted) None sized none = absurd sized
none-as x (Some wanted) (Some new) sized none = cc

-- what is shown of an object is what is known of it
pub shown-as : (m : State) (n : ℕ) (x : Option Known) → IsObject m n x
    → option_map (λ (y : Known). y.attributes) x ≡ attributes_at m n
shown-as m n None is = sym (shown-none m n is)
shown-as m n (Some x) is = sym (shown-some m n x is)

-- what the checks came to
abbrev pub Checks : {A : Type 0} → List LivingExport → SetattrArguments → Known → Result A NfsStatus → Ctx
    → Type 0
Checks exports a x checked ctx = (content : Content) → type_of content ≡ x.attributes.kind
    → set_object exports ctx (shell x content) a ≡ set_found ctx a x content checked

module _ {A : Type 0} (d : DraftValue) (a : SetattrArguments) (x : Known)
    (names : Knows d (λ k. Names d.ctx a.object k x)) (exports : List LivingExport)
    (listed : Knows d (λ k. k.state.exports ≡ exports)) (checked : Result A NfsStatus)
    (checks : Checks exports a x checked d.ctx) where
  object-end : (s : Store) (k : StoreMeaning) → Possible d s k
      → set_object k.state.exports d.ctx (object_at k.state x) a
      ≡ set_found d.ctx a x (content_at k.state x.number) checked
  object-end s k w =
      ap (λ es. set_object es d.ctx (object_at k.state x) a) (listed s k w)
      ∙ checks (content_at k.state x.number) (kind-is k.state x (names s k w).known)

  pub refused-does : (e : NfsStatus) → checked ≡ Err e → Does d d (IsSetEnd d.ctx a) (Err e)
  refused-does e is = does-nothing d (IsSetEnd d.ctx a) e (λ s k w.
      sym (passed _ (names s k w).names (failed _
      (object-end s k w ∙ ap (set_found d.ctx a x (content_at k.state x.number)) is))))

  module _ (passes : A) (is : checked ≡ Ok passes) where
    abbrev set : Settings
    set = settings_after d.ctx x a.attributes

    ends-as : (s : Store) (k : StoreMeaning) → Possible d s k
        → setattr_end k.state d.ctx a ≡ Ok (tt, state_set k.state x a.attributes.size set)
    ends-as s k w = passed _ (names s k w).names (passed _
        (object-end s k w ∙ ap (set_found d.ctx a x (content_at k.state x.number)) is) refl)

    -- the file with its new size, if one is set, and then the attributes
    abbrev resizing : StoreMeaning → StoreMeaning
    resizing = size_set (time_of d.ctx.moment) x.number a.attributes.size

    pub set-does : (mid new : DraftValue) (size : Option NewSize) (settings : Settings)
        → IsSizeOf x a.attributes.size size
        → settings ≡ settings_after d.ctx x a.attributes
        → Turns d mid (size_set (time_of d.ctx.moment) x.number (option_map (λ (s : NewSize). s.size) size))
        → Turns mid new (attributes_changed x.number settings) → Does d new (IsSetEnd d.ctx a) (Ok tt)
    set-does mid new size settings sized are first last =
        let resizes : Turns d mid resizing = subst (λ z. Turns d mid (size_set (time_of d.ctx.moment) x.number z))
        (size-as x a.attributes.size size sized) first in record {
          op = λ k. attributes_changed x.number set (resizing k);
          turns = turns-both d mid new resizing (attributes_changed x.number set) resizes
              (subst (λ (z : Settings). Turns mid new (attributes_changed x.number z)) are last);
          sound = λ s k w formed. attributes-sound (resizing k) x.number set
              (sized-sound k x.number (time_of d.ctx.moment) a.attributes.size w.sound
              (turned-fit d mid resizing resizes s k w));
          ends = λ s k w formed.
              ap (λ m. Ok (tt, m)) (set-state k x (time_of d.ctx.moment) a.attributes.size size set
              (names s k w).known sized)
              ∙ sym (ends-as s k w);
          stays = λ k. refl;
        }
