-- Atoms that are made are well formed, and are read back. Assumes nothing.
use mathlib.Core.Path.{◌≡◌, refl}
use mathlib.Core.Bool.{Bool, true, false, ◌&&◌}
use mathlib.Core.List.{List, ◌∷◌}
use Prim.Native.Nat.{ℕ, suc, ◌-◌, ◌^◌, ◌≤◌, ◌<◌}
use native.Mathlib.Omega.{arith}
use borrow.Author.Tests.{leb-true, lt-ltb, le-leb, eq-eqb, eqb-true}
use lib.Dec.{eqb, leb}
use lib.IntN.{ℤ}
use lib.ListN.{length, get_or, drop, replicate, length-append, length-replicate, length-take, length-drop}
use lib.Seq.{take-append_seam, drop-append_seam}
use Rattle.model.specs.Octets.{big, twos}
use Rattle.model.specs.Base.{all}
use Rattle.model.specs.Schema.{Base, integer, boolean, text, uuid}
use Rattle.model.specs.Value.{zeros, pad, blank, int_atom, bool_atom, uuid_of, uuid_atom, text_of, text_atom, is_utf8, well_atom, byte_atom}
use Rattle.model.proofs.Tests.{and_l, and_r}
use Rattle.model.proofs.Lists.{all_cons, all_take, all_drop, all_append, all_same}
use Rattle.model.proofs.Octets.{octet, length_big, big_octets, value_big_fits}

-- an atom has 25 bytes
pub atom_length : (a : List ℕ) → byte_atom a ≡ true → length a ≡ 25
atom_length a h = eqb-true (length a) 25 (and_l (eqb (length a) 25) (all octet a) h)

pub atom_octets : (a : List ℕ) → byte_atom a ≡ true → all octet a ≡ true
atom_octets a h = and_r (eqb (length a) 25) (all octet a) h

pub pad_atom : (a : List ℕ) → length a ≤ 25 → all octet a ≡ true → byte_atom (pad a) ≡ true
pad_atom a n h =
    let l : length (pad a) ≡ 25 = simp (length-append, length-replicate) (omega arith) in
    rw (eq-eqb (length (pad a)) 25 l) (all_append octet a (replicate (25 - length a) 0) h (all_same octet (25 - length a) 0 refl))

pub blank_atom : byte_atom blank ≡ true
blank_atom = refl

pub blank_well : (k : Base) → well_atom k blank ≡ true
unfolding is_utf8
blank_well integer = refl
blank_well boolean = refl
blank_well text = refl
blank_well uuid = refl

-- ── integers, truth values, ids ──
pub int_atom_atom : (z : ℤ) → byte_atom (int_atom z) ≡ true
int_atom_atom z = pad_atom (big 8 (twos 64 z)) (omega (arith, length_big 8 (twos 64 z))) (big_octets 8 (twos 64 z))

pub int_atom_well : (z : ℤ) → well_atom integer (int_atom z) ≡ true
int_atom_well z = refl

pub bool_atom_atom : (b : Bool) → byte_atom (bool_atom b) ≡ true
bool_atom_atom true = refl
bool_atom_atom false = refl

pub bool_atom_well : (b : Bool) → well_atom boolean (bool_atom b) ≡ true
bool_atom_well true = refl
bool_atom_well false = refl

pub uuid_atom_atom : (i : ℕ) → byte_atom (uuid_atom i) ≡ true
uuid_atom_atom i = pad_atom (big 16 i) (omega (arith, length_big 16 i)) (big_octets 16 i)

pub uuid_atom_well : (i : ℕ) → well_atom uuid (uuid_atom i) ≡ true
uuid_atom_well i = refl

pub uuid_of_uuid_atom : (i : ℕ) → i < 256 ^ 16 → uuid_of (uuid_atom i) ≡ i
uuid_of_uuid_atom i h = value_big_fits 16 i h

-- ── texts ──
pub text_of_text_atom : (t : List ℕ) → text_of (text_atom t) ≡ t
text_of_text_atom t = take-append_seam t (replicate (25 - suc (length t)) 0)

pub text_atom_atom : (t : List ℕ) → length t ≤ 24 → all octet t ≡ true → byte_atom (text_atom t) ≡ true
text_atom_atom t n h = pad_atom (length t ∷ t) (omega arith) (all_cons octet (length t) t (lt-ltb (length t) 256 (omega arith)) h)

pub text_atom_well : (t : List ℕ) → length t ≤ 24 → is_utf8 t ≡ true → well_atom text (text_atom t) ≡ true
text_atom_well t n u =
    let r : List ℕ = replicate (25 - suc (length t)) 0 in
    rw (le-leb (length t) 24 n, text_of_text_atom t, u, drop-append_seam t r) (all_same (λ (b : ℕ). eqb b 0) (25 - suc (length t)) 0 refl)

-- the parts of a well-formed text: its length, its bytes, and zeros
pub record WellText (a : List ℕ) : Type 0 where
  pub short : get_or a 0 0 ≤ 24
  pub utf8 : is_utf8 (text_of a) ≡ true
  pub rest : zeros (drop (suc (get_or a 0 0)) a) ≡ true

pub well_text : (a : List ℕ) → well_atom text a ≡ true → WellText a
well_text a w =
    let n : Bool = leb (get_or a 0 0) 24 in
    let u : Bool = is_utf8 (text_of a) in
    let z : Bool = zeros (drop (suc (get_or a 0 0)) a) in
    record { short = leb-true (get_or a 0 0) 24 (and_l n u (and_l (n && u) z w)); utf8 = and_r n u (and_l (n && u) z w); rest = and_r (n && u) z w }

pub text_of_length : (a : List ℕ) → byte_atom a ≡ true → well_atom text a ≡ true → length (text_of a) ≡ get_or a 0 0
text_of_length a h w = omega (arith, atom_length a h, (well_text a w).short, length-take (get_or a 0 0) (drop 1 a), length-drop 1 a)

pub text_of_octets : (a : List ℕ) → byte_atom a ≡ true → all octet (text_of a) ≡ true
text_of_octets a h = all_take octet (get_or a 0 0) (drop 1 a) (all_drop octet 1 a (atom_octets a h))
