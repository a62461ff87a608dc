-- The types of XDR (RFC 4506, section 4), the values of each, and the bytes that spell a value.
use Rattle.std.specs.Prelude.{◌≡◌, ℕ, ◌<◌, ◌≤◌, ◌^◌, ◌%◌, ◌-◌, Bool, true, false, List}
use Rattle.std.specs.Prelude.{[], ◌∷◌, ◌++◌, length, Option, Some, None, ℤ, FitsSigned, replicate}
use Rattle.std.specs.List.{AllByRecursion}
use Rattle.std.specs.Int.{w32, w64, to_be_bytes, cast_unsigned}

pub data Xdr : Type 0 where
  -- void, 4.16
  Void : Xdr
  -- unsigned int, 4.2
  Word : Xdr
  -- int, 4.1
  Int : Xdr
  -- unsigned hyper, 4.5
  Hyper : Xdr
  -- bool, 4.4
  Flag : Xdr
  -- enum, 4.3: the numbers that it has
  Enum : (known : ℕ → Bool) → Xdr
  -- opaque of a fixed length, 4.9
  Fixed : (size : ℕ) → Xdr
  -- opaque or string of at most so many bytes, 4.10 and 4.11
  Opaque : (max : ℕ) → Xdr
  -- two components of a struct, 4.14
  Pair : (first second : Xdr) → Xdr
  -- an array of at most so many elements, 4.13
  Array : (max : ℕ) → (element : Xdr) → Xdr
  -- optional data, 4.19
  Optional : (inner : Xdr) → Xdr
  -- a list made of optional data: TRUE and an entry, repeated, then FALSE, 4.19
  Entries : (entry : Xdr) → Xdr
  -- a discriminated union: the numbers that its discriminant has, and the arm of each, 4.15
  Union : (known : ℕ → Bool) → (arm : ℕ → Xdr) → Xdr

-- the values of each type: numbers, flags, byte strings, tuples, lists
abbrev pub Value : Xdr → Type 0
Value Void = Unit {0}
Value Word = ℕ
Value Int = ℤ
Value Hyper = ℕ
Value Flag = Bool
Value (Enum known) = ℕ
Value (Fixed size) = List ℕ
Value (Opaque max) = List ℕ
Value (Pair a b) = Value a × Value b
Value (Array max a) = List (Value a)
Value (Optional a) = Option (Value a)
Value (Entries a) = List (Value a)
Value (Union known arm) = (tag : ℕ) × Value (arm tag)

-- the value of a `Pair`
infixr 4 ◌&◌
abbrev pub ◌&◌ : {A B : Type 0} → A → B → A × B
first & second = (first, second)

-- how many bytes of padding follow this many bytes (RFC 4506, section 3)
abbrev pub padding : ℕ → ℕ
padding n = (4 - n % 4) % 4

-- the number of a bool (4.4)
abbrev pub flag_number : Bool → ℕ
flag_number false = 0
flag_number true = 1

-- padding as a reader takes it, and as a writer leaves it (RFC 4506, section 3)
abbrev pub AnyPadding : List ℕ → Type 0
AnyPadding pad = Unit {0}

abbrev pub ZeroPadding : List ℕ → Type 0
ZeroPadding pad = pad ≡ replicate (length pad) 0

-- a value followed by its padding
pub record IsPadded (pads : List ℕ → Type 0) (value bytes : List ℕ) : Type 0 where
  pub pad : List ℕ
  pub enough : length pad ≡ padding (length value)
  pub allowed : pads pad
  pub whole : bytes ≡ value ++ pad

-- elements one after another, each spelled (4.12)
abbrev pub SpellsAll : {A : Type 0} → (A → List ℕ → Type 0) → List A → List ℕ → Type 0
SpellsAll spells [] bytes = bytes ≡ []
SpellsAll spells (v ∷ vs) bytes =
    (front : List ℕ) × (back : List ℕ) × (bytes ≡ front ++ back) × spells v front × SpellsAll spells vs back

-- each entry behind a TRUE, and a FALSE at the end (4.19)
abbrev pub SpellsEntries : {A : Type 0} → (A → List ℕ → Type 0) → List A → List ℕ → Type 0
SpellsEntries spells [] bytes = bytes ≡ to_be_bytes w32 0
SpellsEntries spells (v ∷ vs) bytes =
    (front : List ℕ) × (back : List ℕ) × (bytes ≡ to_be_bytes w32 1 ++ (front ++ back)) ×
    spells v front × SpellsEntries spells vs back

-- the bytes spell the value of the type, with such padding
abbrev pub SpellsBy : (pads : List ℕ → Type 0) → (t : Xdr) → Value t → List ℕ → Type 0
SpellsBy pads Void v bytes = bytes ≡ []
SpellsBy pads Word n bytes = (n < 2 ^ 32) × (bytes ≡ to_be_bytes w32 n)
SpellsBy pads Int z bytes = FitsSigned w32 z × (bytes ≡ to_be_bytes w32 (cast_unsigned w32 z))
SpellsBy pads Hyper n bytes = (n < 2 ^ 64) × (bytes ≡ to_be_bytes w64 n)
SpellsBy pads Flag b bytes = bytes ≡ to_be_bytes w32 (flag_number b)
SpellsBy pads (Enum known) n bytes = (n < 2 ^ 32) × (known n ≡ true) × (bytes ≡ to_be_bytes w32 n)
SpellsBy pads (Fixed size) value bytes = (length value ≡ size) × IsPadded pads value bytes
SpellsBy pads (Opaque max) value bytes =
    (length value ≤ max) × (length value < 2 ^ 32) ×
    ((rest : List ℕ) × (bytes ≡ to_be_bytes w32 (length value) ++ rest) × IsPadded pads value rest)
SpellsBy pads (Pair a b) v bytes =
    (front : List ℕ) × (back : List ℕ) × (bytes ≡ front ++ back) ×
    SpellsBy pads a v.0 front × SpellsBy pads b v.1 back
SpellsBy pads (Array max a) vs bytes =
    (length vs ≤ max) × (length vs < 2 ^ 32) ×
    ((rest : List ℕ) × (bytes ≡ to_be_bytes w32 (length vs) ++ rest) × SpellsAll (SpellsBy pads a) vs rest)
SpellsBy pads (Optional a) None bytes = bytes ≡ to_be_bytes w32 0
SpellsBy pads (Optional a) (Some v) bytes =
    (rest : List ℕ) × (bytes ≡ to_be_bytes w32 1 ++ rest) × SpellsBy pads a v rest
SpellsBy pads (Entries a) vs bytes = SpellsEntries (SpellsBy pads a) vs bytes
SpellsBy pads (Union known arm) v bytes =
    (v.0 < 2 ^ 32) × (known v.0 ≡ true) ×
    ((rest : List ℕ) × (bytes ≡ to_be_bytes w32 v.0 ++ rest) × SpellsBy pads (arm v.0) v.1 rest)

-- The bytes spell the value of the type. Padding may be any bytes.
abbrev pub Spells : (t : Xdr) → Value t → List ℕ → Type 0
Spells t v bytes = SpellsBy AnyPadding t v bytes

-- the values that can be spelled: numbers in range, lengths within bounds, discriminants that are known
abbrev pub HasSpelling : (t : Xdr) → Value t → Type 0
HasSpelling Void v = Unit {0}
HasSpelling Word n = n < 2 ^ 32
HasSpelling Int z = FitsSigned w32 z
HasSpelling Hyper n = n < 2 ^ 64
HasSpelling Flag b = Unit {0}
HasSpelling (Enum known) n = (n < 2 ^ 32) × (known n ≡ true)
HasSpelling (Fixed size) bytes = length bytes ≡ size
HasSpelling (Opaque max) bytes = (length bytes ≤ max) × (length bytes < 2 ^ 32)
HasSpelling (Pair a b) v = HasSpelling a v.0 × HasSpelling b v.1
HasSpelling (Array max a) vs = (length vs ≤ max) × (length vs < 2 ^ 32) × AllByRecursion (HasSpelling a) vs
HasSpelling (Optional a) None = Unit {0}
HasSpelling (Optional a) (Some v) = HasSpelling a v
HasSpelling (Entries a) vs = AllByRecursion (HasSpelling a) vs
HasSpelling (Union known arm) v = (v.0 < 2 ^ 32) × (known v.0 ≡ true) × HasSpelling (arm v.0) v.1
