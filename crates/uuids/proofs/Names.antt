-- uuid-names, one operation after another. Assumes nothing.
use Rattle.std.specs.Prelude.{Option, Some, None}
use mathlib.Core.Path.{◌≡◌, refl, sym, ap, subst, ◌∙◌}
use mathlib.Core.Bool.{Bool, true, false}
use mathlib.Core.List.{List, [], ◌∷◌, ◌++◌}
use Prim.Native.Nat.{ℕ, zero, suc, ◌+◌, ◌-◌, ◌*◌, ◌<◌, ◌≤◌}
use native.Mathlib.Omega.{arith}
use lib.ListN.{length, take, drop, get_or, replicate, length-take, length-drop, take-append-drop}
use lib.Seq.{get_or-drop, drop-drop, take-append-le, drop-append-le, length-take-le}
use Rattle.model.specs.Octets.{value, eq_bytes}
use Rattle.model.specs.Base.{all, ascii}
use Rattle.model.specs.Json.{Json, null, bool, num, str, arr, obj, Named}
use Rattle.inner.specs.Positions.{tree_at}
use Rattle.model.specs.Nav.{items_in, list_of, kind_of, is_text}
use Rattle.model.specs.Members.{has_member, member_value}
use Rattle.inner.specs.Positions.{Means}
use Rattle.model.specs.Text.{is_word}
use Rattle.inner.specs.Positions.{word_in as string}
use Rattle.model.specs.Schema.{uuid}
use Rattle.model.specs.Value.{pad, uuid_atom}
use Rattle.model.specs.Written.{Names, string_in, uuid_from, uuid_by, uuid_items, uuid_in, atom_in}
use Rattle.model.specs.Operations.{member_as}
use Rattle.model.specs.Transact.{ids_from, fresh_ids, insert_name, is_named, names_of}
use Rattle.model.proofs.Octets.{octet, octets, big_value}
use Rattle.model.proofs.Lists.{all_take, all_drop}
use Rattle.elements.specs.Elements.{is_pair}
use Rattle.uuids.specs.Ids.{Spells, id_in, id_atom}
use Rattle.uuids.specs.Named.{place_named, place_in, id_by, names_at, atom_of, fresh_atom, named_in}
use Rattle.uuids.proofs.Decoded.{no_string}

-- ── whether an operation is an insert of a name ──
module _ {A : Type 0} (read : Json → Option A) (w : List ℕ) (ms : List Named) where
  abbrev last_by : Bool → Option Json
  last_by b = elim b [ true ↦ Some (member_value w ms) | false ↦ None ]

  abbrev member_by : Bool → Option A
  member_by b = elim (last_by b) [ None ↦ None | Some j ↦ read j ]

  member_by_lem : {b : Bool} → has_member w ms ≡ b → member_as read w ms ≡ member_by b
  member_by_lem h = ap member_by h

by_op : Option (List ℕ) → List Named → Option (List ℕ)
by_op o ms = elim o [ None ↦ None | Some w ↦ elim (eq_bytes w (ascii "insert")) [ true ↦ member_as string_in (ascii "uuid-name") ms | false ↦ None ] ]

by_op_lem : (j : Json) (ms : List Named) → by_op (string_in j) ms ≡ elim (is_word (ascii "insert") j) [ true ↦ member_as string_in (ascii "uuid-name") ms | false ↦ None ]
unfolding by_op is_word
by_op_lem null ms = refl
by_op_lem (bool b) ms = refl
by_op_lem (num t) ms = refl
by_op_lem (str t) ms = refl
by_op_lem (arr xs) ms = refl
by_op_lem (obj os) ms = refl

named_word : (j : Json) (w : List ℕ) → is_named (string_in j) w ≡ is_word w j
unfolding is_word
named_word null w = refl
named_word (bool b) w = refl
named_word (num t) w = refl
named_word (str t) w = refl
named_word (arr xs) w = refl
named_word (obj ms) w = refl

module _ (s : List ℕ) (ms : List Named) (w : List ℕ) {f : Option ℕ} (m : Means s f (has_member (ascii "op") ms) (member_value (ascii "op") ms)) where
  pub no_op : f ≡ None → is_named (insert_name ms) w ≡ false
  unfolding Means by_op
  no_op e =
      let h : has_member (ascii "op") ms ≡ false = subst (λ x. Means s x (has_member (ascii "op") ms) (member_value (ascii "op") ms)) e m in
      ap (λ o. is_named (by_op o ms) w) (member_by_lem string_in (ascii "op") ms h)

  module _ {p : ℕ} (e : f ≡ Some p) {i : Bool} (is : i ≡ is_word (ascii "insert") (tree_at s p)) where
    insert_by : {b : Bool} → i ≡ b → insert_name ms ≡ elim b [ true ↦ member_as string_in (ascii "uuid-name") ms | false ↦ None ]
    unfolding Means by_op
    insert_by {b} t =
        let k = subst (λ x. Means s x (has_member (ascii "op") ms) (member_value (ascii "op") ms)) e m in
        let q : is_word (ascii "insert") (member_value (ascii "op") ms) ≡ b = ap (is_word (ascii "insert")) k.1 ∙ sym is ∙ t in
        ap (λ o. by_op o ms) (member_by_lem string_in (ascii "op") ms k.0) ∙ by_op_lem (member_value (ascii "op") ms) ms
        ∙ ap (λ (c : Bool). elim c [ true ↦ member_as string_in (ascii "uuid-name") ms | false ↦ None ]) q

    pub no_insert : i ≡ false → is_named (insert_name ms) w ≡ false
    no_insert t = ap (λ o. is_named o w) (insert_by t)

    module _ (t : i ≡ true) {u : Option ℕ} (n : Means s u (has_member (ascii "uuid-name") ms) (member_value (ascii "uuid-name") ms)) where
      pub no_name : u ≡ None → is_named (insert_name ms) w ≡ false
      unfolding Means
      no_name g =
          let h : has_member (ascii "uuid-name") ms ≡ false = subst (λ x. Means s x (has_member (ascii "uuid-name") ms) (member_value (ascii "uuid-name") ms)) g n in
          ap (λ o. is_named o w) (insert_by t ∙ member_by_lem string_in (ascii "uuid-name") ms h)

      pub some_name : {q : ℕ} → u ≡ Some q → is_named (insert_name ms) w ≡ is_word w (tree_at s q)
      unfolding Means
      some_name g =
          let k = subst (λ x. Means s x (has_member (ascii "uuid-name") ms) (member_value (ascii "uuid-name") ms)) g n in
          ap (λ o. is_named o w) (insert_by t ∙ member_by_lem string_in (ascii "uuid-name") ms k.0) ∙ named_word (member_value (ascii "uuid-name") ms) w ∙ ap (is_word w) k.1

-- ── the place of the first, one operation after another ──
names_turn : (ids w : List ℕ) (o : List Named) (os : List (List Named)) {b : Bool} → is_named (insert_name o) w ≡ b
    → names_of ids (o ∷ os) w ≡ elim b [ true ↦ Some (get_or ids 0 0) | false ↦ names_of (drop 1 ids) os w ]
names_turn ids w o os t = ap (λ (b : Bool). elim b [ true ↦ Some (get_or ids 0 0) | false ↦ names_of (drop 1 ids) os w ]) t

pub place_turn : (k : ℕ) (w : List ℕ) (o : List Named) (os : List (List Named)) {b : Bool} → is_named (insert_name o) w ≡ b
    → place_named k w (o ∷ os) ≡ elim b [ true ↦ Some k | false ↦ place_named (k + 1) w os ]
unfolding place_named
place_turn k w o os t = ap (λ (b : Bool). elim b [ true ↦ Some k | false ↦ place_named (k + 1) w os ]) t

-- ── what a name stands for, by the place ──
pub names_by : (ids w : List ℕ) (k : ℕ) (os : List (List Named)) → names_of (drop k ids) os w ≡ id_by ids (place_named k w os)
unfolding id_by place_named
names_by ids w k [] = refl
names_by ids w k (o ∷ os) = go (is_named (insert_name o) w) refl (names_by ids w (k + 1) os)
  where
    go : (b : Bool) → is_named (insert_name o) w ≡ b → names_of (drop (k + 1) ids) os w ≡ id_by ids (place_named (k + 1) w os) → names_of (drop k ids) (o ∷ os) w ≡ id_by ids (place_named k w (o ∷ os))
    go true t ih =
        let z : k + 0 ≡ k = omega arith in
        names_turn (drop k ids) w o os t ∙ ap Some (get_or-drop k ids 0 0 ∙ ap (λ n. get_or ids n 0) z) ∙ ap (id_by ids) (sym (place_turn k w o os t))
    go false t ih = names_turn (drop k ids) w o os t ∙ ap (λ l. names_of l os w) (drop-drop 1 k ids) ∙ ih ∙ ap (id_by ids) (sym (place_turn k w o os t))

-- ── fresh ids ──
ids_get : (n k : ℕ) (b : List ℕ) → k < n → get_or (ids_from n b) k 0 ≡ value (take 16 (drop (16 * k) b))
ids_get zero k b h = absurd (omega arith)
ids_get (suc n) zero b h = refl
ids_get (suc n) (suc k) b h =
    let z : 16 + 16 * k ≡ 16 * suc k = omega arith in
    ids_get n k (drop 16 b) (omega arith) ∙ ap (λ l. value (take 16 l)) (drop-drop (16 * k) 16 b ∙ ap (λ n. drop n b) z)

ids_past : (n k : ℕ) (b : List ℕ) → n ≤ k → get_or (ids_from n b) k 0 ≡ 0
ids_past zero k b h = refl
ids_past (suc n) zero b h = absurd (omega arith)
ids_past (suc n) (suc k) b h = ids_past n k (drop 16 b) (omega arith)

-- those of the front
ids_append : (n : ℕ) (a b : List ℕ) → length a ≡ 16 * n → ids_from n (a ++ b) ≡ ids_from n a
ids_append zero a b h = refl
ids_append (suc n) a b h =
    rw (take-append-le 16 a b (omega arith), drop-append-le 16 a b (omega arith)) (ap (λ l. value (take 16 a) ∷ l) (ids_append n (drop 16 a) b (omega (arith, length-drop 16 a))))

pub ids_front : (names : List ℕ) → 256 ≤ length names → fresh_ids names ≡ fresh_ids (take 256 names)
ids_front names h = ap fresh_ids (sym (take-append-drop 256 names)) ∙ ids_append 16 (take 256 names) (drop 256 names) (length-take-le 256 names h)

module _ (fresh : List ℕ) (k : ℕ) where
  pub fresh_at : (src zeros : List ℕ) → k < 16 → length fresh ≡ 288 → ((i : ℕ) → get_or fresh i 0 < 256) → src ≡ take 16 (drop (16 * k) fresh) → zeros ≡ replicate 25 0
      → src ++ drop (length src) zeros ≡ fresh_atom fresh k
  unfolding fresh_atom
  fresh_at src zeros h n o e z =
      let l = take 16 (drop (16 * k) fresh) in
      let m : length l ≡ 16 = omega (arith, length-take 16 (drop (16 * k) fresh), length-drop (16 * k) fresh) in
      let q : all octet l ≡ true = all_take octet 16 (drop (16 * k) fresh) (all_drop octet (16 * k) fresh (octets fresh o)) in
      ap (λ x. x ++ drop (length x) zeros) e ∙ ap (λ x. l ++ drop (length l) x) z ∙ ap (λ n. l ++ drop n (replicate 25 0)) m
      ∙ sym (ap uuid_atom (ids_get 16 k fresh h) ∙ ap pad (big_value 16 l m q) ∙ ap (λ n. l ++ replicate (25 - n) 0) m)

  pub fresh_past : (zeros : List ℕ) → 16 ≤ k → zeros ≡ replicate 25 0 → zeros ≡ fresh_atom fresh k
  unfolding fresh_atom
  fresh_past zeros h z = z ∙ sym (ap uuid_atom (ids_past 16 k fresh h))

-- ── the atom of an id ──
pub spells_atom : (i : Option (ℕ × ℕ)) (o : Option ℕ) → Spells i o → atom_of o ≡ id_atom i
unfolding Spells atom_of id_atom
spells_atom (Some (high, low)) o p = ap atom_of p.1 ∙ ap (λ l. Some (pad l)) p.2
spells_atom None o p = ap atom_of p

pub some_string : (j : Json) → is_text (kind_of j) ≡ true → string_in j ≡ Some (string j)
unfolding kind_of string
some_string null h = cc
some_string (bool b) h = cc
some_string (num t) h = cc
some_string (str t) h = refl
some_string (arr xs) h = cc
some_string (obj ms) h = cc

module _ (s names : List ℕ) (j : Json) where
  by_name : Option (List ℕ) → Option ℕ
  by_name o = elim o [ None ↦ None | Some t ↦ names_at s names t ]

  pub named_not : is_text (kind_of j) ≡ false → atom_of (named_in (names_at s names) j) ≡ None
  unfolding atom_of named_in by_name
  named_not h = ap (λ o. atom_of (by_name o)) (no_string j h)

  module _ (h : is_text (kind_of j) ≡ true) {f : Option ℕ} (p : f ≡ place_in s names (string j)) where
    named_by : named_in (names_at s names) j ≡ id_by (fresh_ids names) f
    unfolding named_in names_at by_name
    named_by = ap by_name (some_string j h) ∙ ap (id_by (fresh_ids names)) (sym p)

    pub named_some : {k : ℕ} → f ≡ Some k → atom_of (named_in (names_at s names) j) ≡ Some (fresh_atom names k)
    unfolding atom_of id_by fresh_atom
    named_some g = ap atom_of (named_by ∙ ap (id_by (fresh_ids names)) g)

    pub named_none : f ≡ None → atom_of (named_in (names_at s names) j) ≡ None
    unfolding atom_of id_by
    named_none g = ap atom_of (named_by ∙ ap (id_by (fresh_ids names)) g)

-- ── ["uuid", ..] and ["named-uuid", ..] ──
few : (names : Names) (l : List Json) → is_pair l ≡ false → uuid_items names l ≡ None
unfolding is_pair
few names [] h = refl
few names (a ∷ []) h = refl
few names (a ∷ b ∷ []) h = cc
few names (a ∷ b ∷ c ∷ l) h = refl

not_two : (names : Names) (j : Json) → is_pair (items_in j) ≡ false → uuid_in names j ≡ None
unfolding items_in
not_two names null h = refl
not_two names (bool b) h = refl
not_two names (num t) h = refl
not_two names (str t) h = refl
not_two names (arr xs) h = few names (list_of xs) h
not_two names (obj ms) h = refl

uuid_two : (names : Names) (j a b : Json) → items_in j ≡ a ∷ b ∷ [] → uuid_in names j ≡ uuid_by names a (string_in b)
unfolding items_in
uuid_two names null a b e = cc
uuid_two names (bool t) a b e = cc
uuid_two names (num t) a b e = cc
uuid_two names (str t) a b e = cc
uuid_two names (arr xs) a b e = ap (uuid_items names) e
uuid_two names (obj ms) a b e = cc

module _ (names : Names) (j : Json) where
  pub uuid_not : is_pair (items_in j) ≡ false → atom_in names uuid j ≡ None
  unfolding atom_of
  uuid_not h = ap atom_of (not_two names j h)

  module _ {a b : Json} (e : items_in j ≡ a ∷ b ∷ []) where
    abbrev by_words : Bool → Bool → Option (List ℕ) → Option ℕ
    by_words p q o = elim o [ None ↦ None | Some t ↦ elim p [ true ↦ uuid_from 0 0 t | false ↦ elim q [ true ↦ names t | false ↦ None ] ] ]

    uuid_by_lem : (o : Option (List ℕ)) {p q : Bool} → is_word (ascii "uuid") a ≡ p → is_word (ascii "named-uuid") a ≡ q → uuid_by names a o ≡ by_words p q o
    uuid_by_lem None x y = refl
    uuid_by_lem (Some t) {p} {q} x y =
        ap (λ (c : Bool). by_words c (is_word (ascii "named-uuid") a) (Some t)) x ∙ ap (λ (c : Bool). by_words p c (Some t)) y

    pub uuid_plain : is_word (ascii "uuid") a ≡ true → atom_in names uuid j ≡ atom_of (id_in b)
    unfolding atom_of id_in
    uuid_plain x = ap atom_of (uuid_two names j a b e ∙ uuid_by_lem (string_in b) x refl)

    pub uuid_named : is_word (ascii "uuid") a ≡ false → is_word (ascii "named-uuid") a ≡ true → atom_in names uuid j ≡ atom_of (named_in names b)
    unfolding atom_of named_in
    uuid_named x y = ap atom_of (uuid_two names j a b e ∙ uuid_by_lem (string_in b) x y)

    pub uuid_other : is_word (ascii "uuid") a ≡ false → is_word (ascii "named-uuid") a ≡ false → atom_in names uuid j ≡ None
    unfolding atom_of
    uuid_other x y = ap atom_of (uuid_two names j a b e ∙ uuid_by_lem (string_in b) x y ∙ neither (string_in b))
      where
        neither : (o : Option (List ℕ)) → by_words false false o ≡ None
        neither None = refl
        neither (Some t) = refl
