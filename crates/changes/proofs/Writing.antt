-- Records written one after another: one more, some and then others, what the buffer holds in the end. Assumes nothing.
use mathlib.Core.Path.{◌≡◌, refl, sym, ap, ◌∙◌}
use mathlib.Core.List.{List, [], ◌∷◌, ◌++◌, map}
use Prim.Native.Nat.{ℕ, suc, ◌+◌, ◌-◌, ◌%◌, ◌≤◌, ◌<◌}
use native.Mathlib.Nat.{mod-mod, add-zero, add-suc}
use native.Mathlib.Numerals.{add-one}
use native.Mathlib.Omega.{arith}
use lib.ListN.{length, take, drop, replicate, take-append-drop}
use lib.Seq.{sets-eq, length-take-le}
use borrow.Rule.Slice.PartMut.{mid_of, put_mid}
use Rattle.model.specs.Octets.{big, filled}
use Rattle.model.specs.Base.{flat}
use Rattle.model.specs.Records.{Change, born, gone, column, end, numbered, number_from, encode, born_kind, gone_kind, column_kind, end_kind, value_bytes}
use Rattle.model.proofs.Octets.{big_octets, value_big, value_inj}
use Rattle.octets.proofs.Rests.{write_next}
use Rattle.json_writer.specs.Put.{put_at}
use Rattle.json_writer.proofs.Putting.{put_none, put_append, put_zeros}
use Rattle.changes.specs.declared.Cursor.{Cursor}
use Rattle.changes.specs.Walk.{Written, written, put, puts, Room, Recorded}

-- ── a number as its four bytes hold it ──
big_mod : (k : ℕ) → big 4 (k % 4294967296) ≡ big 4 k
big_mod k = value_inj (big 4 (k % 4294967296)) (big 4 k) refl (big_octets 4 (k % 4294967296)) (big_octets 4 k) (value_big 4 (k % 4294967296) ∙ mod-mod k 4294967296 ∙ sym (value_big 4 k))

wrapped : (run k : ℕ) (e : Change) → encode (numbered run (k % 4294967296) e) ≡ encode (numbered run k e)
wrapped run k (born t i) = ap (λ (b : List ℕ). born_kind ∷ big 4 run ++ (b ++ t ∷ big 16 i)) (big_mod k)
wrapped run k (gone t i) = ap (λ (b : List ℕ). gone_kind ∷ big 4 run ++ (b ++ t ∷ big 16 i)) (big_mod k)
wrapped run k (column t i c v) = ap (λ (b : List ℕ). column_kind ∷ big 4 run ++ (b ++ t ∷ big 16 i ++ c ∷ value_bytes v)) (big_mod k)
wrapped run k end = ap (λ (b : List ℕ). end_kind ∷ big 4 run ++ b) (big_mod k)

-- ── one record more: its writer was lent the rest of the buffer ──
module _ (run number n : ℕ) (e : Change) (c : Cursor) (before ys : List ℕ) (len : ℕ) where
  pub recorded_one : length (encode (numbered run n e)) ≡ len → n ≡ (number + c.count + 1) % 4294967296 → Room len c (length before) → 0 < len
      → ys ≡ encode (numbered run n e) ++ drop len (mid_of c.at (length before - c.at) before)
      → Recorded run number (e ∷ []) len c before (record { count = c.count + 1; at = c.at + len }) (put_mid c.at (length before - c.at) before ys)
  unfolding put put_at
  recorded_one size which r some y =
      let at = c.at in
      let k = number + c.count in
      let same : encode (numbered run n e) ≡ encode (numbered run (suc k) e) =
      ap (λ (m : ℕ). encode (numbered run m e)) which ∙ wrapped run (k + 1) e ∙ ap (λ (m : ℕ). encode (numbered run m e)) (add-one k) in
      let b : List ℕ = encode (numbered run (suc k) e) in
      let long : length b ≡ len = sym (ap length same) ∙ size in
      let bytes : put_mid at (length before - at) before ys ≡ put_at before at b =
      write_next (take at before) b before before ys at len (length-take-le at before (omega (arith, r.room, r.enough))) (sym (take-append-drop at before))
      (y ∙ ap (λ (l : List ℕ). l ++ drop len (mid_of at (length before - at) before)) same)
      ∙ ap (λ (m : ℕ). take at before ++ b ++ drop (at + m) before) (sym long)
      ∙ sym (sets-eq b before at (omega (arith, long, r.room, r.enough))) in
      record {
        all = λ j. record { count = add-one c.count j; at = at + sym long j; bytes = bytes j };
        short = omega arith;
        few = omega (arith, r.few);
      }

-- ── some records, and then others ──
module _ (run number : ℕ) where
  puts_append : (es fs : List Change) (w : Written) → puts run number (es ++ fs) w ≡ puts run number fs (puts run number es w)
  puts_append [] fs w = refl
  puts_append (e ∷ es) fs w = puts_append es fs (put run number e w)

  -- how many they are, and the buffer that holds them
  pub puts_count : (es : List Change) (w : Written) → (puts run number es w).count ≡ w.count + length es
  unfolding put
  puts_count [] w = omega arith
  puts_count (e ∷ es) w = puts_count es (put run number e w) ∙ omega arith

  pub puts_bytes : (es : List Change) (w : Written) → (puts run number es w).bytes ≡ put_at w.bytes w.at (flat (map encode (number_from run (number + w.count) es)))
  unfolding put
  puts_bytes [] w = sym (put_none w.bytes w.at)
  puts_bytes (e ∷ es) w =
      let b : List ℕ = encode (numbered run (suc (number + w.count)) e) in
      puts_bytes es (put run number e w)
      ∙ ap (λ (k : ℕ). put_at (put_at w.bytes w.at b) (w.at + length b) (flat (map encode (number_from run k es)))) (add-suc number w.count)
      ∙ sym (put_append w.bytes w.at b (flat (map encode (number_from run (suc (number + w.count)) es))))

-- ── a writer after another ──
pub recorded_is : {run number : ℕ} {es fs : List Change} {m : ℕ} {c r : Cursor} {b a : List ℕ} → Recorded run number es m c b r a → es ≡ fs → (n : ℕ) → m ≤ n → Recorded run number fs n c b r a
recorded_is {run} {number} {c} {b} p e n h = record { all = p.all ∙ ap (λ (l : List Change). puts run number l (written c b)) e; short = omega (arith, p.short); few = p.few }

pub recorded_then : {run number : ℕ} {es fs : List Change} {m n : ℕ} {c r q : Cursor} {b a d : List ℕ} → Recorded run number es m c b r a → Recorded run number fs n r a q d → Recorded run number (es ++ fs) (m + n) c b q d
recorded_then {run} {number} {es} {fs} {m} {n} {c} {r} {q} {b} {a} {d} p o =
    record { all = o.all ∙ ap (puts run number fs) p.all ∙ sym (puts_append run number es fs (written c b)); short = omega (arith, p.short, o.short); few = o.few }

-- ── a loop of writers: what is still to be written, from where it stands, ends as the whole does from the start ──
pub record Along (run number : ℕ) (whole : List Change) (most : ℕ) (c₀ : Cursor) (b₀ : List ℕ) (c : Cursor) (b : List ℕ) (rest : List Change) : Type 0 where
  pub same : puts run number rest (written c b) ≡ puts run number whole (written c₀ b₀)
  pub size : length b ≡ length b₀
  pub short : c.at ≤ c₀.at + most
  pub few : c.count ≤ c.at

pub along_all : (run number : ℕ) (whole : List Change) (c : Cursor) (b : List ℕ) → c.count ≤ c.at → Along run number whole 0 c b c b whole
along_all run number whole c b h = record { same = refl; size = refl; short = omega arith; few = h }

pub along_is : {run number : ℕ} {whole : List Change} {m : ℕ} {c₀ c : Cursor} {b₀ b : List ℕ} {es fs : List Change} → Along run number whole m c₀ b₀ c b es → es ≡ fs → (n : ℕ) → m ≤ n → Along run number whole n c₀ b₀ c b fs
along_is {run} {number} {c} {b} g e n h = record { same = ap (λ (l : List Change). puts run number l (written c b)) (sym e) ∙ g.same; size = g.size; short = omega (arith, g.short); few = g.few }

pub along_next : {run number : ℕ} {whole : List Change} {m k : ℕ} {c₀ c r : Cursor} {b₀ b a : List ℕ} {es fs : List Change} → Along run number whole m c₀ b₀ c b (es ++ fs) → Recorded run number es k c b r a → length a ≡ length b → Along run number whole (m + k) c₀ b₀ r a fs
along_next {run} {number} {c} {b} {es} {fs} g p l =
    record { same = ap (puts run number fs) p.all ∙ sym (puts_append run number es fs (written c b)) ∙ g.same; size = l ∙ g.size; short = omega (arith, g.short, p.short); few = p.few }

pub along_end : {run number : ℕ} {whole : List Change} {m : ℕ} {c₀ c : Cursor} {b₀ b : List ℕ} → Along run number whole m c₀ b₀ c b [] → (n : ℕ) → m ≤ n → Recorded run number whole n c₀ b₀ c b
along_end g n h = record { all = g.same; short = omega (arith, g.short); few = g.few }

-- ── in the end: a buffer of zeros, written from its front ──
module _ {run number : ℕ} {es : List Change} {most : ℕ} {r : Cursor} {before after : List ℕ} (p : Recorded run number es most (record { count = 0; at = 0 }) before r after) where
  pub finished_count : r.count ≡ length es
  finished_count = ap (λ (w : Written). w.count) p.all ∙ puts_count run number es (record { count = 0; at = 0; bytes = before }) ∙ omega arith

  pub finished_bytes : (n : ℕ) → before ≡ replicate n 0 → after ≡ filled n (flat (map encode (number_from run number es)))
  finished_bytes n e =
      ap (λ (w : Written). w.bytes) p.all
      ∙ puts_bytes run number es (record { count = 0; at = 0; bytes = before })
      ∙ ap (λ (k : ℕ). put_at before 0 (flat (map encode (number_from run k es)))) (add-zero number)
      ∙ ap (λ (l : List ℕ). put_at l 0 (flat (map encode (number_from run number es)))) e
      ∙ put_zeros n (flat (map encode (number_from run number es)))
