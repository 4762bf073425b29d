-- The order of atoms: of two different well-formed atoms of a type one is less, and no atom is less than itself. Assumes nothing.
use mathlib.Core.Path.{◌≡◌, refl, sym, ◌∙◌, ap}
use mathlib.Core.Bool.{true, false}
use mathlib.Core.List.{List, [], ◌∷◌, ◌++◌}
use mathlib.Core.Logic.{◌⊎◌, inl, inr}
use Prim.Native.Nat.{ℕ, suc, ◌^◌, ◌≤◌, ◌<◌}
use native.Mathlib.Omega.{arith}
use borrow.Author.Tests.{eqb-true}
use lib.Dec.{eqb}
use lib.ListN.{length, take, drop, length-take, length-drop, take-append-drop}
use Rattle.model.specs.Octets.{value, eq_bytes, lt_bytes}
use Rattle.model.specs.Schema.{Base, integer, boolean, text, uuid}
use Rattle.model.specs.Value.{int_atom, uuid_of, uuid_atom, text_atom, zeros, int_of, text_of, less_atom, well_atom, byte_atom}
use Rattle.model.proofs.Tests.{split, clash, and_l, and_r, bytes_self, bytes_same}
use Rattle.model.proofs.Lists.{all_take}
use Rattle.model.proofs.Octets.{octet, value_lt, value_inj, lt_bytes_irrefl, lt_bytes_trans, lt_bytes_total}
use Rattle.model.proofs.Signed.{fits64, from_twos_fits, int_of_int_atom, lt_z_irrefl, lt_z_trans, lt_z_same, from_twos_inj}
use Rattle.model.proofs.Atoms.{int_atom_atom, int_atom_well, uuid_atom_atom, uuid_atom_well, uuid_of_uuid_atom, text_atom_atom, text_atom_well, text_of_text_atom, text_of_octets, atom_length, atom_octets, well_text, text_of_length}

pub less_irrefl : (k : Base) (a : List ℕ) → less_atom k a a ≡ false
less_irrefl integer a = lt_z_irrefl (int_of a)
less_irrefl boolean a = lt_bytes_irrefl a
less_irrefl text a = lt_bytes_irrefl (text_of a)
less_irrefl uuid a = lt_bytes_irrefl a

pub less_trans : (k : Base) (a b c : List ℕ) → less_atom k a b ≡ true → less_atom k b c ≡ true → less_atom k a c ≡ true
less_trans integer a b c h g = lt_z_trans (int_of a) (int_of b) (int_of c) h g
less_trans boolean a b c h g = lt_bytes_trans a b c h g
less_trans text a b c h g = lt_bytes_trans (text_of a) (text_of b) (text_of c) h g
less_trans uuid a b c h g = lt_bytes_trans a b c h g

-- ── atoms with the same content are the same ──
zeros_same : (a b : List ℕ) → length a ≡ length b → zeros a ≡ true → zeros b ≡ true → a ≡ b
zeros_same [] [] n h g = refl
zeros_same [] (y ∷ b) n h g = absurd (omega arith)
zeros_same (x ∷ a) [] n h g = absurd (omega arith)
zeros_same (x ∷ a) (y ∷ b) n h g =
    let p : x ≡ 0 = eqb-true x 0 (and_l (eqb x 0) (zeros a) h) in
    let q : y ≡ 0 = eqb-true y 0 (and_l (eqb y 0) (zeros b) g) in
    cc (zeros_same a b (omega arith) (and_r (eqb x 0) (zeros a) h) (and_r (eqb y 0) (zeros b) g))

-- a front, and zeros from there on
front_same : (n : ℕ) (a b : List ℕ) → length a ≡ length b → take n a ≡ take n b → zeros (drop n a) ≡ true → zeros (drop n b) ≡ true → a ≡ b
front_same n a b l e h g =
    let r : drop n a ≡ drop n b = zeros_same (drop n a) (drop n b) (omega (arith, length-drop n a, length-drop n b)) h g in
    sym (take-append-drop n a) ∙ ap (λ (f : List ℕ). f ++ drop n a) e ∙ ap (λ (f : List ℕ). take n b ++ f) r ∙ take-append-drop n b

-- the number of an atom's first w bytes
front_lt : (w : ℕ) (a : List ℕ) → w ≤ 25 → byte_atom a ≡ true → value (take w a) < 256 ^ w
front_lt w a n x =
    let m : length (take w a) ≡ w = omega (arith, length-take w a, atom_length a x) in
    rw m at (value_lt (take w a) (all_take octet w a (atom_octets a x)))

numbers_same : (w : ℕ) (a b : List ℕ) → byte_atom a ≡ true → byte_atom b ≡ true → zeros (drop w a) ≡ true → zeros (drop w b) ≡ true
    → value (take w a) ≡ value (take w b) → a ≡ b
numbers_same w a b x y h g e =
    let n : length a ≡ length b = atom_length a x ∙ sym (atom_length b y) in
    let m : length (take w a) ≡ length (take w b) = omega (arith, length-take w a, length-take w b) in
    front_same w a b n (value_inj (take w a) (take w b) m (all_take octet w a (atom_octets a x)) (all_take octet w b (atom_octets b y)) e) h g

ints_same : (a b : List ℕ) → byte_atom a ≡ true → byte_atom b ≡ true → zeros (drop 8 a) ≡ true → zeros (drop 8 b) ≡ true → int_of a ≡ int_of b → a ≡ b
ints_same a b x y h g e =
    numbers_same 8 a b x y h g (from_twos_inj (value (take 8 a)) (value (take 8 b)) (front_lt 8 a (omega arith) x) (front_lt 8 b (omega arith) y) e)

texts_same : (a b : List ℕ) → byte_atom a ≡ true → byte_atom b ≡ true → well_atom text a ≡ true → well_atom text b ≡ true → text_of a ≡ text_of b → a ≡ b
texts_same [] b x y h g e = absurd (omega (arith, atom_length [] x))
texts_same (m ∷ a) [] x y h g e = absurd (omega (arith, atom_length [] y))
texts_same (m ∷ a) (n ∷ b) x y h g e =
    let s : m ≡ n = sym (text_of_length (m ∷ a) x h) ∙ ap length e ∙ text_of_length (n ∷ b) y g in
    let t : take (suc n) (m ∷ a) ≡ take (suc n) (n ∷ b) = cc (e, s) in
    front_same (suc n) (m ∷ a) (n ∷ b) (atom_length (m ∷ a) x ∙ sym (atom_length (n ∷ b) y)) t (rw (← s) (well_text (m ∷ a) h).rest) (well_text (n ∷ b) g).rest

-- ── a well-formed atom is made of its content ──
pub int_of_fits : (a : List ℕ) → byte_atom a ≡ true → fits64 (int_of a) ≡ true
int_of_fits a x = from_twos_fits (value (take 8 a)) (front_lt 8 a (omega arith) x)

pub int_atom_int_of : (a : List ℕ) → byte_atom a ≡ true → well_atom integer a ≡ true → int_atom (int_of a) ≡ a
int_atom_int_of a x h = ints_same (int_atom (int_of a)) a (int_atom_atom (int_of a)) x (int_atom_well (int_of a)) h (int_of_int_atom (int_of a) (int_of_fits a x))

pub uuid_of_fits : (a : List ℕ) → byte_atom a ≡ true → uuid_of a < 256 ^ 16
uuid_of_fits a x = front_lt 16 a (omega arith) x

pub uuid_atom_uuid_of : (a : List ℕ) → byte_atom a ≡ true → well_atom uuid a ≡ true → uuid_atom (uuid_of a) ≡ a
uuid_atom_uuid_of a x h = numbers_same 16 (uuid_atom (uuid_of a)) a (uuid_atom_atom (uuid_of a)) x (uuid_atom_well (uuid_of a)) h (uuid_of_uuid_atom (uuid_of a) (uuid_of_fits a x))

pub text_atom_text_of : (a : List ℕ) → byte_atom a ≡ true → well_atom text a ≡ true → text_atom (text_of a) ≡ a
text_atom_text_of a x h =
    let n : length (text_of a) ≤ 24 = omega (arith, text_of_length a x h, (well_text a h).short) in
    texts_same (text_atom (text_of a)) a (text_atom_atom (text_of a) n (text_of_octets a x)) x (text_atom_well (text_of a) n (well_text a h).utf8) h (text_of_text_atom (text_of a))

-- ── totality ──
bytes_last : (a b : List ℕ) → lt_bytes a b ≡ false → lt_bytes b a ≡ false → a ≡ b
bytes_last a b h g = split (eq_bytes a b) (λ e. bytes_same a b e) (λ e. absurd (clash (lt_bytes b a) (lt_bytes_total a b h e) g))

-- of well-formed atoms of a type, neither is less only of an atom and itself
pub less_same : (k : Base) (a b : List ℕ) → byte_atom a ≡ true → byte_atom b ≡ true → well_atom k a ≡ true → well_atom k b ≡ true
    → less_atom k a b ≡ false → less_atom k b a ≡ false → a ≡ b
less_same integer a b x y h g p q = ints_same a b x y h g (lt_z_same (int_of a) (int_of b) p q)
less_same boolean a b x y h g p q = bytes_last a b p q
less_same text a b x y h g p q = texts_same a b x y h g (bytes_last (text_of a) (text_of b) p q)
less_same uuid a b x y h g p q = bytes_last a b p q

pub less_total : (k : Base) (a b : List ℕ) → byte_atom a ≡ true → byte_atom b ≡ true → well_atom k a ≡ true → well_atom k b ≡ true
    → eq_bytes a b ≡ false → (less_atom k a b ≡ true) ⊎ (less_atom k b a ≡ true)
less_total k a b x y h g n = split (less_atom k a b) (λ e. inl e) (λ e. split (less_atom k b a) (λ f. inr f)
    (λ f. absurd (clash (eq_bytes a b) (rw (less_same k a b x y h g e f) (bytes_self b)) n)))

-- the same, where the one is known not to be less
pub less_other : (k : Base) (a b : List ℕ) → byte_atom a ≡ true → byte_atom b ≡ true → well_atom k a ≡ true → well_atom k b ≡ true
    → eq_bytes a b ≡ false → less_atom k a b ≡ false → less_atom k b a ≡ true
less_other k a b x y h g n e = split (less_atom k b a) (λ f. f) (λ f. absurd (clash (eq_bytes a b) (rw (less_same k a b x y h g e f) (bytes_self b)) n))
