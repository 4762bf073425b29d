-- Lists of which one entry goes; members of which one that comes again goes, and the last comes last. Assumes nothing.
use mathlib.Core.Path.{◌≡◌, refl, sym, ap, ◌∙◌}
use mathlib.Core.List.{List, [], ◌∷◌, ◌++◌, map, append_assoc, append-nil}
use mathlib.Core.Bool.{Bool, true, false, ◌||◌}
use Prim.Native.Nat.{ℕ, zero, suc, ◌+◌, ◌-◌, ◌<◌, ◌≤◌}
use native.Mathlib.Omega.{arith}
use native.Mathlib.Numerals.{add-one}
use lib.ListN.{length, get_or, take, drop, length-append, length-drop, drop_of_length-le}
use lib.Seq.{drop-cons, get_or-take, length-take-le, length-paste, take-paste}
use Rattle.model.specs.Octets.{eq_bytes}
use Rattle.model.specs.Base.{all}
use Rattle.model.specs.Json.{Named}
use Rattle.model.specs.Members.{has_member, counting}
use Rattle.model.proofs.Tests.{split, clash, and_l, and_r, or_l, or_r, or_true, bytes_same, bytes_self}
use Rattle.model.proofs.SchemaLaws.{has_or, has_same}
use Rattle.columns.specs.Parts.{met_at, without, Dropped, Forgotten}
use Rattle.std.specs.List.{copy_within}

-- ── an entry that goes ──
module _ {A : Type 0} where
  pub without_past : (i : ℕ) (l : List A) → length l ≤ i → without i l ≡ l
  without_past i [] h = refl
  without_past zero (x ∷ l) h = absurd (omega arith)
  without_past (suc i) (x ∷ l) h = ap (λ (r : List A). x ∷ r) (without_past i l (omega arith))

  without_end : (i : ℕ) (l : List A) → without i (take (suc i) l) ≡ take i l
  without_end zero [] = refl
  without_end zero (x ∷ l) = refl
  without_end (suc i) [] = refl
  without_end (suc i) (x ∷ l) = ap (λ (r : List A). x ∷ r) (without_end i l)

  without_snoc : (i : ℕ) (l : List A) (a : A) → i < length l → without i (l ++ (a ∷ [])) ≡ without i l ++ (a ∷ [])
  without_snoc i [] a h = absurd (omega arith)
  without_snoc zero (x ∷ l) a h = refl
  without_snoc (suc i) (x ∷ l) a h = ap (λ (r : List A). x ∷ r) (without_snoc i l a (omega arith))

  length_without : (i : ℕ) (l : List A) → i < length l → length (without i l) + 1 ≡ length l
  length_without i [] h = absurd (omega arith)
  length_without zero (x ∷ l) h = omega arith
  length_without (suc i) (x ∷ l) h = let q = length_without i l (omega arith) in omega arith

  pub without_few : (i : ℕ) (l : List A) → length (without i l) ≤ length l
  without_few i [] = omega arith
  without_few zero (x ∷ l) = omega arith
  without_few (suc i) (x ∷ l) = let q = without_few i l in omega arith

  pub all_without : (f : A → Bool) (i : ℕ) (l : List A) → all f l ≡ true → all f (without i l) ≡ true
  all_without f i [] h = refl
  all_without f zero (x ∷ l) h = and_r (f x) _ h
  all_without f (suc i) (x ∷ l) h = rw (and_l (f x) _ h) (all_without f i l (and_r (f x) _ h))

  pub all_at : (f : A → Bool) (n : ℕ) (l : List A) (i : ℕ) (d : A) → n ≤ length l → i < n → all f (take n l) ≡ true → f (get_or l i d) ≡ true
  all_at f zero l i d h k e = absurd (omega arith)
  all_at f (suc n) [] i d h k e = absurd (omega arith)
  all_at f (suc n) (x ∷ l) zero d h k e = and_l (f x) _ e
  all_at f (suc n) (x ∷ l) (suc i) d h k e = all_at f n l i d (omega arith) (omega arith) (and_r (f x) _ e)

  -- what stands after i moves down
  without_split : (i n : ℕ) (l : List A) → i < n → n ≤ length l → without i (take n l) ≡ take i l ++ take (n - suc i) (drop (suc i) l)
  without_split i zero l h k = absurd (omega arith)
  without_split i (suc n) [] h k = absurd (omega arith)
  without_split zero (suc n) (x ∷ l) h k = let z : n ≡ suc n - 1 = omega arith in ap (λ (m : ℕ). take m l) z
  without_split (suc i) (suc n) (x ∷ l) h k =
      let z : n - suc i ≡ suc n - suc (suc i) = omega arith in
      ap (λ (r : List A). x ∷ r) (without_split i n l (omega arith) (omega arith) ∙ ap (λ (m : ℕ). take i l ++ take m (drop (suc i) l)) z)

  pub moved_down : {i n : ℕ} {before after : List A} → i < n → n ≤ length before → after ≡ copy_within before (i + 1) n i → Dropped i n before after
  moved_down {i} {n} {before} {after} h k e =
      let z : i + (n - (i + 1)) ≡ n - 1 = omega arith in
      let few : n - (i + 1) ≤ length (drop (i + 1) before) = omega (arith, length-drop (i + 1) before) in
      record {
        size = ap length e ∙ length-paste before i (drop (i + 1) before) (n - (i + 1)) (omega arith) few;
        are = ap (take (n - 1)) e ∙ ap (λ (m : ℕ). take m (copy_within before (i + 1) n i)) (sym z)
            ∙ take-paste before i (drop (i + 1) before) (n - (i + 1)) (omega arith) few ∙ rw add-one (sym (without_split i n before h k));
      }

pub map_without : {A B : Type 0} (f : A → B) (i : ℕ) (l : List A) → map f (without i l) ≡ without i (map f l)
map_without f i [] = refl
map_without f zero (x ∷ l) = refl
map_without f (suc i) (x ∷ l) = ap (λ (r : List _). f x ∷ r) (map_without f i l)

-- ── the place of a name ──
module _ (w : List ℕ) (cells : List (List ℕ)) (n : ℕ) (in_cells : n ≤ length cells) where
  pub met_end : (i : ℕ) → n ≤ i → met_at w (drop i (take n cells)) ≡ 0
  met_end i h =
      let past : length (take n cells) ≤ i = (let z = length-take-le n cells in_cells in omega arith) in
      ap (met_at w) (drop_of_length-le (take n cells) past)

  module _ (i : ℕ) (h : i < n) where
    next : drop i (take n cells) ≡ get_or cells i [] ∷ drop (i + 1) (take n cells)
    next =
        drop-cons (take n cells) i [] (let z = length-take-le n cells in_cells in omega arith)
        ∙ (λ j. get_or-take n cells i [] h j ∷ drop (sym (add-one i) j) (take n cells))

    pub met_here : eq_bytes (get_or cells i []) w ≡ true → met_at w (drop i (take n cells)) ≡ 0
    met_here e = rw (next, met_at, e)

    pub met_next : eq_bytes (get_or cells i []) w ≡ false → met_at w (drop i (take n cells)) ≡ met_at w (drop (i + 1) (take n cells)) + 1
    met_next e = rw (next, met_at, e) (sym (add-one _))

-- a name forgotten, and one that was not there
module _ {w : List ℕ} {n : ℕ} {places : List ℕ} {cells : List (List ℕ)} (in_places : n ≤ length places) (in_cells : n ≤ length cells) {i : ℕ} (met : i ≡ met_at w (take n cells)) where
  pub forgot : i < n → {places2 : List ℕ} {cells2 : List (List ℕ)} → Dropped i n places places2 → Dropped i n cells cells2 → Forgotten w n (n - 1) places places2 cells cells2
  forgot h p c =
      let l : length (without i (take n cells)) + 1 ≡ length (take n cells) = length_without i (take n cells) (let z = length-take-le n cells in_cells in omega arith) in
      let q : n - 1 ≡ length (without i (take n cells)) = (let z = length-take-le n cells in_cells in omega arith) in
      record {
        count = q ∙ ap (λ (x : ℕ). length (without x (take n cells))) met;
        size = p.size;
        names_size = c.size;
        places_are = p.are ∙ ap (λ (x : ℕ). without x (take n places)) met;
        names_are = c.are ∙ ap (λ (x : ℕ). without x (take n cells)) met;
      }

  pub forgot_none : n ≤ i → Forgotten w n n places places cells cells
  forgot_none h =
      let c : without i (take n cells) ≡ take n cells = without_past i (take n cells) (let z = length-take-le n cells in_cells in omega arith) in
      let p : without i (take n places) ≡ take n places = without_past i (take n places) (let z = length-take-le n places in_places in omega arith) in
      record {
        count = sym (ap length c ∙ length-take-le n cells in_cells) ∙ ap (λ (x : ℕ). length (without x (take n cells))) met;
        size = refl;
        names_size = refl;
        places_are = sym p ∙ ap (λ (x : ℕ). without x (take n places)) met;
        names_are = sym c ∙ ap (λ (x : ℕ). without x (take n cells)) met;
      }

-- ── members without the first of a name ──
abbrev pub less : List ℕ → List Named → List Named
less w [] = []
less w (m ∷ ms) = elim (eq_bytes m.name w) [ true ↦ ms | false ↦ m ∷ less w ms ]

less_long : (w : List ℕ) (ms : List Named) → length ms ≤ length (less w ms) + 1
less_long w [] = omega arith
less_long w (m ∷ ms) = split (eq_bytes m.name w) (λ e. rw (less, e) (omega arith)) (λ e. rw (less, e) (let q = less_long w ms in omega arith))

-- ── the members that count ──
counting_more : (m : Named) (ms : List Named) → has_member m.name ms ≡ false → counting (m ∷ ms) ≡ m ∷ counting ms
unfolding counting
counting_more m ms h = rw (counting, h)

counting_less : (m : Named) (ms : List Named) → has_member m.name ms ≡ true → counting (m ∷ ms) ≡ counting ms
unfolding counting
counting_less m ms h = rw (counting, h)

counting_same : (m : Named) (a b : List Named) → has_member m.name a ≡ has_member m.name b → counting a ≡ counting b → counting (m ∷ a) ≡ counting (m ∷ b)
counting_same m a b h e =
    split
    (has_member m.name a)
    (λ q. counting_less m a q ∙ e ∙ sym (counting_less m b (sym h ∙ q)))
    (λ q. counting_more m a q ∙ ap (λ (r : List Named). m ∷ r) e ∙ sym (counting_more m b (sym h ∙ q)))

has_in : (v : List ℕ) (d : List Named) (m : Named) (r : List Named) → eq_bytes m.name v ≡ true → has_member v (d ++ m ∷ r) ≡ true
has_in v [] m r h = has_or v m r ∙ rw h
has_in v (x ∷ d) m r h = has_or v x (d ++ m ∷ r) ∙ ap (λ (b : Bool). eq_bytes x.name v || b) (has_in v d m r h) ∙ or_true (eq_bytes x.name v)

bytes_join : (x y v : List ℕ) → eq_bytes x y ≡ true → eq_bytes x v ≡ true → eq_bytes y v ≡ true
bytes_join x y v h k = ap (λ (z : List ℕ). eq_bytes z v) (sym (bytes_same x y h)) ∙ k

has_less : (v : List ℕ) (d : List Named) (m : Named) (r : List Named) → has_member v (d ++ m ∷ r) ≡ has_member v (less m.name d ++ m ∷ r)
has_less v [] m r = refl
has_less v (x ∷ d) m r =
    split
    (eq_bytes x.name m.name)
    (λ e.
    rw
    (less, e)
    (has_or v x (d ++ m ∷ r)
    ∙ split
    (eq_bytes x.name v)
    (λ f. rw f (sym (has_in v d m r (bytes_join x.name m.name v e f))))
    (λ f. rw f)))
    (λ e.
    rw
    (less, e)
    (has_or v x (d ++ m ∷ r) ∙ ap (λ (b : Bool). eq_bytes x.name v || b) (has_less v d m r) ∙ sym (has_or v x (less m.name d ++ m ∷ r))))

pub counting_again : (d : List Named) (m : Named) (r : List Named) → counting (d ++ m ∷ r) ≡ counting (less m.name d ++ m ∷ r)
counting_again [] m r = refl
counting_again (x ∷ d) m r =
    split
    (eq_bytes x.name m.name)
    (λ e. rw (less, e) (counting_less x (d ++ m ∷ r) (has_in x.name d m r (bytes_join x.name m.name x.name e (bytes_self x.name)))))
    (λ e. rw (less, e) (counting_same x (d ++ m ∷ r) (less m.name d ++ m ∷ r) (has_less x.name d m r) (counting_again d m r)))

-- members none of which has the name of another
abbrev pub Once : List Named → Type 0
Once [] = Unit
Once (m ∷ ms) = (has_member m.name ms ≡ false) × Once ms

pub once_counting : (ms : List Named) → Once ms → counting ms ≡ ms
unfolding counting
once_counting [] h = refl
once_counting (m ∷ ms) h = rw (counting, h.0) (ap (λ (r : List Named). m ∷ r) (once_counting ms h.1))

none_flip : (x y : List ℕ) → eq_bytes x y ≡ false → eq_bytes y x ≡ false
none_flip x y h = split (eq_bytes y x) (λ e. absurd (clash (eq_bytes x y) (bytes_join y x y e (bytes_self y)) h)) (λ e. e)

has_none : (v : List ℕ) (d : List Named) (m : Named) → has_member v d ≡ false → eq_bytes m.name v ≡ false → has_member v (d ++ (m ∷ [])) ≡ false
unfolding has_member
has_none v [] m h e = rw (has_member, e)
has_none v (x ∷ d) m h e =
    let o : (eq_bytes x.name v || has_member v d) ≡ false = sym (has_or v x d) ∙ h in
    has_or v x (d ++ (m ∷ [])) ∙ rw (or_l (eq_bytes x.name v) _ o) (has_none v d m (or_r (eq_bytes x.name v) _ o) e)

once_snoc : (d : List Named) (m : Named) → Once d → has_member m.name d ≡ false → Once (d ++ (m ∷ []))
unfolding has_member
once_snoc [] m o h = (refl, tt)
once_snoc (x ∷ d) m o h =
    let q : (eq_bytes x.name m.name || has_member m.name d) ≡ false = sym (has_or m.name x d) ∙ h in
    (has_none x.name d m o.0 (none_flip x.name m.name (or_l (eq_bytes x.name m.name) _ q)), once_snoc d m o.1 (or_r (eq_bytes x.name m.name) _ q))

pub once_less : (d : List Named) (m : Named) → Once d → Once (less m.name d ++ (m ∷ []))
unfolding has_member
once_less [] m o = (refl, tt)
once_less (x ∷ d) m o =
    split
    (eq_bytes x.name m.name)
    (λ e. rw (less, e) (once_snoc d m o.1 (sym (has_same x.name m.name d e) ∙ o.0)))
    (λ e.
    rw
    (less, e)
    (sym (has_less x.name d m []) ∙ has_none x.name d m o.0 (none_flip x.name m.name e), once_less d m o.1))

-- at least so many count
pub counting_long : (r d : List Named) → Once d → length d ≤ length (counting (d ++ r))
counting_long [] d o =
    let q : length (counting (d ++ [])) ≡ length d = ap (λ (x : List Named). length (counting x)) (append-nil d) ∙ ap length (once_counting d o) in
    omega arith
counting_long (m ∷ r) d o =
    let q : counting (d ++ m ∷ r) ≡ counting ((less m.name d ++ (m ∷ [])) ++ r) = counting_again d m r ∙ ap counting (sym (append_assoc (less m.name d) (m ∷ []) r)) in
    let l = counting_long r (less m.name d ++ (m ∷ [])) (once_less d m o) in
    let a : length (less m.name d ++ (m ∷ [])) ≡ length (less m.name d) + 1 = length-append (less m.name d) (m ∷ []) in
    let b = less_long m.name d in
    let c = ap length q in
    omega arith
