-- Reading a list wants no memory: no step of it answers so, and a chain of steps answers what a step does.
use Rattle.std.proofs.Common.{◌≡◌, ℕ, zero, suc, ◌+◌, Bool, true, false, cond, ltb, eqb, List, [], ◌∷◌, length, take}
use Rattle.std.proofs.Common.{drop, None, Result, Ok, Err}
use Rattle.std.specs.Int.{Width, w32, w64, byte_len, from_be_bytes}
use Rattle.nfs_xdr.specs.declared.XdrError.{XdrError}
use Rattle.nfs_xdr.specs.declared.XdrError.TheVariants.{Short, TooLong, BadValue, Memory}
use Rattle.nfs_xdr.specs.Types.{Xdr, Void, Word, Int, Hyper, Flag, Enum, Fixed, Opaque, Pair, Array, Optional, Entries}
use Rattle.nfs_xdr.specs.Types.{Union, padding}
use Rattle.nfs_xdr.specs.Reading.{◌>>=◌, number_at, signed_of, flag_of, known_of, bytes_at, opaque_of, some_of}
use Rattle.nfs_xdr.specs.Reading.{read_all, read_entries, arm_of, read}

abbrev IsNoWant : {A : Type 0} → Result A XdrError → Type 0
IsNoWant r = r ≡ Err Memory → ⊥

then : {A B : Type 0} (r : Result A XdrError) (f : A → Result B XdrError) → IsNoWant r → ((x : A) → IsNoWant (f x))
    → IsNoWant (r >>= f)
then (Ok x) f p q e = q x e
then (Err d) f p q e = p cc

ok : {A : Type 0} (x : A) → IsNoWant (Ok x)
ok x e = absurd cc

choice : {A : Type 0} (b : Bool) (r s : Result A XdrError) → IsNoWant r → IsNoWant s → IsNoWant (cond b r s)
choice true r s p q = p
choice false r s p q = q

refusal : {A : Type 0} (b : Bool) (d : XdrError) (r : Result A XdrError) → (d ≡ Memory → ⊥) → IsNoWant r
    → IsNoWant (cond b (Err d) r)
refusal b d r p q = choice b (Err d) r (λ e. p cc) q

number : (w : Width) (bytes : List ℕ) → IsNoWant (number_at w bytes)
number w bytes = refusal (ltb (length bytes) (byte_len w)) Short
    (Ok (from_be_bytes w (take (byte_len w) bytes), drop (byte_len w) bytes)) (λ e. absurd cc) (ok _)

flag : (n : ℕ × List ℕ) → IsNoWant (flag_of n)
flag n = choice (eqb n.0 0) (Ok (false, n.1)) (cond (eqb n.0 1) (Ok (true, n.1)) (Err BadValue)) (ok _)
    (choice (eqb n.0 1) (Ok (true, n.1)) (Err BadValue) (ok _) (λ e. absurd cc))

flag_at : (bytes : List ℕ) → IsNoWant (number_at w32 bytes >>= flag_of)
flag_at bytes = then (number_at w32 bytes) flag_of (number w32 bytes) flag

bytes_of : (size : ℕ) (bytes : List ℕ) → IsNoWant (bytes_at size bytes)
bytes_of size bytes = refusal (ltb (length bytes) (size + padding size)) Short
    (Ok (take size bytes, drop (size + padding size) bytes)) (λ e. absurd cc) (ok _)

all : {A : Type 0} (reads : List ℕ → Result (A × List ℕ) XdrError) → ((bytes : List ℕ) → IsNoWant (reads bytes))
    → (n : ℕ) (bytes : List ℕ) → IsNoWant (read_all reads n bytes)
unfolding read_all
all reads never zero bytes = ok _
all reads never (suc n) bytes = then (reads bytes) _ (never bytes)
    (λ x. then (read_all reads n x.1) _ (all reads never n x.1) (λ xs. ok _))

entries : {A : Type 0} (reads : List ℕ → Result (A × List ℕ) XdrError) → ((bytes : List ℕ) → IsNoWant (reads bytes))
    → (n : ℕ) (bytes : List ℕ) → IsNoWant (read_entries reads n bytes)
unfolding read_entries
entries reads never zero bytes = λ e. absurd cc
entries reads never (suc n) bytes =
    then (number_at w32 bytes >>= flag_of) _ (flag_at bytes) (λ more.
    choice more.0 (reads more.1 >>= (λ x. read_entries reads n x.1 >>= (λ xs. Ok (x.0 ∷ xs.0, xs.1)))) (Ok ([], more.1))
    (then (reads more.1) _ (never more.1) (λ x. then (read_entries reads n x.1) _ (entries reads never n x.1)
    (λ xs. ok _)))
    (ok _))

-- Reading wants no memory.
pub no_want : (t : Xdr) (bytes : List ℕ) → read t bytes ≡ Err Memory → ⊥
unfolding read arm_of
no_want Void bytes = ok _
no_want Word bytes = number w32 bytes
no_want Int bytes = then (number_at w32 bytes) signed_of (number w32 bytes) (λ n. ok _)
no_want Hyper bytes = number w64 bytes
no_want Flag bytes = flag_at bytes
no_want (Enum known) bytes = then (number_at w32 bytes) (known_of known) (number w32 bytes)
    (λ n. choice (known n.0) (Ok n) (Err BadValue) (ok _) (λ e. absurd cc))
no_want (Fixed size) bytes = bytes_of size bytes
no_want (Opaque max) bytes = then (number_at w32 bytes) (opaque_of max) (number w32 bytes)
    (λ n. refusal (ltb max n.0) TooLong (bytes_at n.0 n.1) (λ e. absurd cc) (bytes_of n.0 n.1))
no_want (Pair a b) bytes = then (read a bytes) _ (no_want a bytes) (λ x. then (read b x.1) _ (no_want b x.1)
    (λ y. ok _))
no_want (Array max a) bytes = then (number_at w32 bytes) _ (number w32 bytes)
    (λ n. refusal (ltb max n.0) TooLong (read_all (read a) n.0 n.1) (λ e. absurd cc) (all (read a) (no_want a) n.0 n.1))
no_want (Optional a) bytes = then (number_at w32 bytes >>= flag_of) _ (flag_at bytes)
    (λ x. choice x.0 (read a x.1 >>= some_of) (Ok (None, x.1)) (then (read a x.1) some_of (no_want a x.1) (λ y. ok _))
    (ok _))
no_want (Entries a) bytes = entries (read a) (no_want a) (length bytes) bytes
no_want (Union known arm) bytes = then (number_at w32 bytes) _ (number w32 bytes)
    (λ n. choice (known n.0) (read (arm n.0) n.1 >>= (λ v. Ok ((n.0, v.0), v.1))) (Err BadValue)
    (then (read (arm n.0) n.1) _ (no_want (arm n.0) n.1) (λ v. ok _)) (λ e. absurd cc))
