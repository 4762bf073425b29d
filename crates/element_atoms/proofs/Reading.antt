-- An element read as an atom, by its base type. Assumes nothing.
use Rattle.std.specs.Prelude.{Option, Some, None}
use mathlib.Core.Path.{◌≡◌, refl, sym, ap, subst, ◌∙◌}
use mathlib.Core.Bool.{Bool, true, false}
use mathlib.Core.List.{List, ◌∷◌}
use mathlib.Core.Logic.{◌⊎◌, inl, inr}
use Prim.Native.Nat.{ℕ, zero, suc, ◌+◌, ◌-◌, ◌<◌}
use native.Mathlib.Omega.{arith}
use lib.ListN.{length, drop, replicate, length-append, length-replicate}
use borrow.Author.Tests.{le-ltb}
use Rattle.model.specs.Octets.{big, twos, eq_bytes}
use Rattle.model.specs.Json.{Json, null, bool, num, str, arr, obj}
use Rattle.model.specs.Nav.{kind_of, is_text, is_truth}
use Rattle.inner.specs.Positions.{is_true}
use Rattle.inner.specs.Positions.{word_in as string}
use Rattle.model.specs.declared.Whole.{Whole}
use Rattle.model.specs.Whole.{whole_of, is_whole, whole_int}
use Rattle.model.specs.Schema.{Base, integer, boolean, text, uuid}
use Rattle.model.specs.Value.{pad, blank, int_atom, bool_atom, text_atom, text_of}
use Rattle.model.specs.Written.{Names, bool_in, atom_in, long_atom}
use Rattle.model.proofs.Tests.{split, clash, bytes_same, bytes_self}
use Rattle.model.proofs.Atoms.{text_of_text_atom}
use Rattle.octets.proofs.Orders.{eq_length}
use Rattle.uuids.specs.Named.{Answered}
use Rattle.uuids.proofs.Atoms.{answered_some, answered_none}
use Rattle.uuids.proofs.Names.{some_string}
use Rattle.uuids.proofs.Decoded.{no_string}
use Rattle.element_atoms.specs.declared.Atom.{Atom}
use Rattle.element_atoms.specs.declared.Atom.TheVariants.{Wrong, Long, Fits}
use Rattle.element_atoms.specs.Atoms.{integer_in, boolean_in, TextReads, cell_of, atom_as, Reads, FitsIf}

-- ── integers and truth values ──
module _ (j : Json) {w : Whole} (e : w ≡ whole_of j) where
  integer_by : {b : Bool} → is_whole w ≡ b → integer_in j ≡ elim b [ true ↦ Some (int_atom (whole_int (whole_of j))) | false ↦ None ]
  unfolding integer_in
  integer_by h = ap (λ (b : Bool). elim b [ true ↦ Some (int_atom (whole_int (whole_of j))) | false ↦ None ]) (ap is_whole (sym e) ∙ h)

  pub integer_some : is_whole w ≡ true → {x : ℕ} → x ≡ twos 64 (whole_int w) → integer_in j ≡ Some (pad (big 8 x))
  integer_some h q = integer_by h ∙ ap (λ z. Some (pad (big 8 z))) (ap (λ v. twos 64 (whole_int v)) (sym e) ∙ sym q)

  pub integer_none : is_whole w ≡ false → integer_in j ≡ None
  integer_none h = integer_by h

is_truth_lem : (j : Json) → is_truth (kind_of j) ≡ true → bool_in j ≡ Some (is_true j)
unfolding kind_of is_true
is_truth_lem null h = cc
is_truth_lem (bool b) h = refl
is_truth_lem (num t) h = cc
is_truth_lem (str t) h = cc
is_truth_lem (arr xs) h = cc
is_truth_lem (obj ms) h = cc

no_truth : (j : Json) → is_truth (kind_of j) ≡ false → bool_in j ≡ None
unfolding kind_of
no_truth null h = refl
no_truth (bool b) h = cc
no_truth (num t) h = refl
no_truth (str t) h = refl
no_truth (arr xs) h = refl
no_truth (obj ms) h = refl

abbrev truth_atom : Option Bool → Option (List ℕ)
truth_atom o = elim o [ None ↦ None | Some b ↦ Some (bool_atom b) ]

pub boolean_some : (j : Json) → is_truth (kind_of j) ≡ true → boolean_in j ≡ Some (bool_atom (is_true j))
unfolding boolean_in
boolean_some j h = ap truth_atom (is_truth_lem j h)

pub boolean_none : (j : Json) → is_truth (kind_of j) ≡ false → boolean_in j ≡ None
unfolding boolean_in
boolean_none j h = ap truth_atom (no_truth j h)

-- ── strings ──
pub string_str : {j : Json} {t : List ℕ} → j ≡ str t → string j ≡ t
unfolding string
string_str e = ap string e

nones : (m n : ℕ) → m ≡ n → replicate {A = ℕ} m 0 ≡ replicate n 0
nones m n e = ap (λ (k : ℕ). replicate {A = ℕ} k 0) e

pub zeros_from : (k n : ℕ) → drop k (replicate {A = ℕ} n 0) ≡ replicate (n - k) 0
zeros_from zero n = nones n (n - 0) (omega arith)
zeros_from (suc k) zero = nones 0 (0 - suc k) (omega arith)
zeros_from (suc k) (suc n) = zeros_from k n ∙ nones (n - k) (suc n - suc k) (omega arith)

abbrev string_atom : Option (List ℕ) → Option (List ℕ)
string_atom o = elim o [ None ↦ None | Some t ↦ Some (text_atom t) ]

text_some : (names : Names) (j : Json) → is_text (kind_of j) ≡ true → atom_in names text j ≡ Some (text_atom (string j))
text_some names j h = ap string_atom (some_string j h)

text_none : (names : Names) (j : Json) → is_text (kind_of j) ≡ false → atom_in names text j ≡ None
text_none names j h = ap string_atom (no_string j h)

-- ── what was read ──
-- an atom that was cleared
pub blank_is : (before : List ℕ) {out : List ℕ} → length before ≡ 25 → out ≡ replicate (length before) 0 → out ≡ blank
blank_is before h e = e ∙ nones (length before) 25 h

-- a blank atom is no long string
short_blank : (k : Base) → long_atom k blank ≡ false
short_blank integer = refl
short_blank boolean = refl
short_blank text = refl
short_blank uuid = refl

module _ (names : Names) (j : Json) where
  module _ (k : Base) (cell out : List ℕ) (r : Atom) where
    pub reads_wrong : atom_in names k j ≡ None → FitsIf false cell r out → Reads names k j r out
    unfolding Reads FitsIf
    reads_wrong e p = subst (λ x. Reads names k j x out) (sym p.0) (e, p.1)

    pub reads_fits_if : ((a : List ℕ) → long_atom k a ≡ false) → {before : List ℕ} (ok : Bool) → Answered (atom_in names k j) before ok cell → FitsIf ok cell r out → Reads names k j r out
    unfolding Reads FitsIf
    reads_fits_if s true e p = subst (λ x. Reads names k j x out) (sym p.0) (answered_some (atom_in names k j) e ∙ ap Some (sym p.1), s out)
    reads_fits_if s false e p = reads_wrong (answered_none (atom_in names k j) e) p

  module _ (out : List ℕ) where
    pub reads_text : (r : Atom) → TextReads j r out → Reads names text j r out
    unfolding Reads TextReads
    reads_text Wrong p = (text_none names j p.0, p.1)
    reads_text Fits p = (text_some names j p.0 ∙ ap Some (sym p.1), ap (long_atom text) p.1 ∙ le-ltb 24 (length (string j)) (omega (arith, p.2)))
    reads_text Long p = (refl, p.0, p.1, p.2)

  -- ── compared with an atom of 25 bytes ──
  module _ (k : Base) (out : List ℕ) where
    pub wrong_cell : Reads names k j Wrong out → atom_as names k j ≡ out
    unfolding Reads atom_as cell_of
    wrong_cell p = ap cell_of p.0 ∙ sym p.1

    pub fits_cell : Reads names k j Fits out → atom_as names k j ≡ out
    unfolding Reads atom_as cell_of
    fits_cell p = ap cell_of p.0

    pub wrong_short : Reads names k j Wrong out → long_atom k (atom_as names k j) ≡ false
    unfolding Reads
    wrong_short p = ap (long_atom k) (wrong_cell p ∙ p.1) ∙ short_blank k

    pub fits_short : Reads names k j Fits out → long_atom k (atom_as names k j) ≡ false
    unfolding Reads
    fits_short p = ap (long_atom k) (fits_cell p) ∙ p.1

    -- the same of both
    pub short_cell : {r : Atom} → (r ≡ Wrong) ⊎ (r ≡ Fits) → Reads names k j r out → (atom_as names k j ≡ out) × (long_atom k (atom_as names k j) ≡ false)
    short_cell (inl e) p = let q = subst (λ x. Reads names k j x out) e p in (wrong_cell q, wrong_short q)
    short_cell (inr e) p = let q = subst (λ x. Reads names k j x out) e p in (fits_cell q, fits_short q)

    pub long_cell : Reads names k j Long out → (atom_as names k j ≡ text_atom (string j)) × (24 < length (string j)) × (k ≡ text)
    unfolding Reads atom_as cell_of
    long_cell p = (ap (λ b. cell_of (atom_in names b j)) p.0 ∙ ap cell_of (text_some names j p.1), p.2, p.0)

    pub long_other : Reads names k j Long out → (x : List ℕ) → length x ≡ 25 → eq_bytes x (atom_as names k j) ≡ false
    long_other p x n =
        let q = long_cell p in
        ap (eq_bytes x) q.0 ∙ eq_length x (text_atom (string j)) (λ e. omega (arith, e, long_length (string j), q.1))
      where
        long_length : (t : List ℕ) → length (text_atom t) ≡ suc (length t) + (25 - suc (length t))
        long_length t = length-append (length t ∷ t) (replicate (25 - suc (length t)) 0) ∙ ap (λ n. suc (length t) + n) (length-replicate (25 - suc (length t)) 0)

-- ── two strings as atoms ──
pub text_eq : (w t : List ℕ) → eq_bytes (text_atom w) (text_atom t) ≡ eq_bytes t w
text_eq w t = split (eq_bytes t w)
    (λ e. ap (λ x. eq_bytes (text_atom w) (text_atom x)) (bytes_same t w e) ∙ bytes_self (text_atom w) ∙ sym e)
    (λ e. split (eq_bytes (text_atom w) (text_atom t))
    (λ f. let q : w ≡ t = sym (text_of_text_atom w) ∙ ap text_of (bytes_same (text_atom w) (text_atom t) f) ∙ text_of_text_atom t in
    absurd (clash (eq_bytes t w) (ap (eq_bytes t) q ∙ bytes_self t) e))
    (λ f. f ∙ sym e))
