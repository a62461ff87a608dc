-- What calls came with: one that stands alone is taken out.
use Rattle.std.proofs.Common.{◌≡◌, Bool, true, false, not, ◌&&◌, ◌||◌, List, [], ◌∷◌, length}
use Rattle.std.proofs.Common.{refl, sym, ◌∙◌, ap, subst}
use Rattle.std.proofs.lemmas.Bool.{and_parts}
use Rattle.std.specs.Cmp.Lexicographic.{bytes_decides}
use Rattle.nfs_replies.specs.Kept.{same_bytes}
use Rattle.nfs_replies.specs.Origins.{is_among, same_origin}
use Rattle.nfs_replies.specs.declared.origins.Origin.{Origin}

pub same_equal : (a b : Origin) → same_origin a b ≡ true → a ≡ b
same_equal a b same =
    let parts = and_parts (same_bytes a.host b.host) (same_bytes a.bytes b.bytes) same in
    λ i. record {
      host = (bytes_decides a.host b.host).0 parts.0 i;
      bytes = (bytes_decides a.bytes b.bytes).0 parts.1 i;
    }

pub same_itself : (a b : Origin) → a ≡ b → same_origin a b ≡ true
same_itself a b is = ap (λ (o : Origin). same_origin a o) (sym is) ∙ by (same_bytes a.host a.host)
    (same_bytes a.bytes a.bytes) ((bytes_decides a.host a.host).1 refl) ((bytes_decides a.bytes a.bytes).1 refl)
  where
    by : (x y : Bool) → x ≡ true → y ≡ true → (x && y) ≡ true
    by x y e f = ap (λ t. t && y) e ∙ f

-- of one that stands alone, nothing is left
pub alone_out : (os : List Origin) (o : Origin) → length os ≡ 1 → is_among os o ≡ true → (p : Origin) →
    is_among [] p ≡ (not (same_origin o p) && is_among os p)
alone_out [] o one among p = cc
alone_out (x ∷ []) o one among p =
    subst (λ (y : Origin). false ≡ (not (same_origin o p) && (same_origin p y || false)))
    (same_equal o x (only (same_origin o x) among))
    (none (same_origin o p) (same_origin p o) (λ same. same_itself o p (sym (same_equal p o same))))
  where
    only : (b : Bool) → (b || false) ≡ true → b ≡ true
    only true e = refl
    only false e = e

    none : (a b : Bool) → (b ≡ true → a ≡ true) → false ≡ (not a && (b || false))
    none true b turned = refl
    none false true turned = turned refl
    none false false turned = refl
alone_out (x ∷ y ∷ rest) o one among p = cc
