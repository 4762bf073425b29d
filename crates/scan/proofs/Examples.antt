-- Worked examples, by computing the specification. Assumes nothing.
use Rattle.std.specs.Prelude.{Ok, Err}
use Rattle.model.specs.declared.ReadError.TheVariants.{Stop}
use mathlib.Core.Path.{◌≡◌, refl}
use mathlib.Core.List.{List, [], ◌∷◌, map}
use mathlib.Core.Bool.{true, false}
use Prim.Native.Nat.{ℕ}
use Rattle.model.specs.Scan.{and_then, run, passing, is_space, is_digit, within_at, word_at, then_read}
use Rattle.model.specs.Strings.{in_range, is_character, utf8, rest_of, ranges_at, form_at, short_of, hex_of, digit_by, digit_from, digit_at, tested_from, tested, second_from, paired, escaped_from, going, escape_by, char_by, char_bytes, char_adds, string_at}
use Rattle.model.specs.Numbers.{minus_at, sign_at, some_from, whole_at, frac_at, is_exp, exp_at}
use Rattle.model.specs.Json.{null, bool, num, str, arr, obj, none, item, empty, member, items, members, scalar_by, key_at, comma_or, after_item, list_at, member_at, opens, dispatch, value_at, end_at, text_at}

small_text : List ℕ
small_text = 91 ∷ 34 ∷ 98 ∷ 97 ∷ 116 ∷ 104 ∷ 34 ∷ 93 ∷ []

small : text_at small_text ≡ record { read = Ok 8; tree = arr (item (str (98 ∷ 97 ∷ 116 ∷ 104 ∷ [])) (none)) }
unfolding and_then run passing is_space is_digit within_at word_at then_read in_range is_character utf8 rest_of ranges_at form_at short_of hex_of digit_by digit_from digit_at tested_from tested second_from paired escaped_from going escape_by char_by char_bytes char_adds string_at minus_at sign_at some_from whole_at frac_at is_exp exp_at items members scalar_by key_at comma_or after_item list_at member_at opens dispatch value_at end_at text_at small_text
small = refl

probe_text : List ℕ
probe_text = 91 ∷ 34 ∷ 98 ∷ 97 ∷ 116 ∷ 104 ∷ 34 ∷ 44 ∷ 123 ∷ 34 ∷ 111 ∷ 112 ∷ 34 ∷ 58 ∷ 34 ∷ 105 ∷ 110 ∷ 115 ∷ 101 ∷ 114 ∷ 116 ∷ 34 ∷ 44 ∷ 34 ∷ 116 ∷ 97 ∷ 98 ∷ 108 ∷ 101 ∷ 34 ∷ 58 ∷ 34 ∷ 80 ∷ 114 ∷ 111 ∷ 98 ∷ 101 ∷ 34 ∷ 44 ∷ 34 ∷ 114 ∷ 111 ∷ 119 ∷ 34 ∷ 58 ∷ 123 ∷ 34 ∷ 110 ∷ 97 ∷ 109 ∷ 101 ∷ 34 ∷ 58 ∷ 34 ∷ 112 ∷ 72 ∷ 45 ∷ 49 ∷ 34 ∷ 125 ∷ 125 ∷ 93 ∷ []

probe : text_at probe_text ≡ record { read = Ok 62; tree = arr (item (str (98 ∷ 97 ∷ 116 ∷ 104 ∷ [])) (item (obj (member (111 ∷ 112 ∷ []) (str (105 ∷ 110 ∷ 115 ∷ 101 ∷ 114 ∷ 116 ∷ [])) (member (116 ∷ 97 ∷ 98 ∷ 108 ∷ 101 ∷ []) (str (80 ∷ 114 ∷ 111 ∷ 98 ∷ 101 ∷ [])) (member (114 ∷ 111 ∷ 119 ∷ []) (obj (member (110 ∷ 97 ∷ 109 ∷ 101 ∷ []) (str (112 ∷ 72 ∷ 45 ∷ 49 ∷ [])) (empty))) (empty))))) (none))) }
unfolding and_then run passing is_space is_digit within_at word_at then_read in_range is_character utf8 rest_of ranges_at form_at short_of hex_of digit_by digit_from digit_at tested_from tested second_from paired escaped_from going escape_by char_by char_bytes char_adds string_at minus_at sign_at some_from whole_at frac_at is_exp exp_at items members scalar_by key_at comma_or after_item list_at member_at opens dispatch value_at end_at text_at probe_text
probe = refl

long_text : List ℕ
long_text = 91 ∷ 34 ∷ 98 ∷ 97 ∷ 116 ∷ 104 ∷ 34 ∷ 44 ∷ 123 ∷ 34 ∷ 111 ∷ 112 ∷ 34 ∷ 58 ∷ 34 ∷ 105 ∷ 110 ∷ 115 ∷ 101 ∷ 114 ∷ 116 ∷ 34 ∷ 44 ∷ 34 ∷ 116 ∷ 97 ∷ 98 ∷ 108 ∷ 101 ∷ 34 ∷ 58 ∷ 34 ∷ 80 ∷ 114 ∷ 111 ∷ 98 ∷ 101 ∷ 34 ∷ 44 ∷ 34 ∷ 114 ∷ 111 ∷ 119 ∷ 34 ∷ 58 ∷ 123 ∷ 34 ∷ 110 ∷ 97 ∷ 109 ∷ 101 ∷ 34 ∷ 58 ∷ 34 ∷ 112 ∷ 72 ∷ 45 ∷ 49 ∷ 34 ∷ 44 ∷ 34 ∷ 120 ∷ 34 ∷ 58 ∷ 91 ∷ 34 ∷ 115 ∷ 101 ∷ 116 ∷ 34 ∷ 44 ∷ 91 ∷ 49 ∷ 44 ∷ 50 ∷ 44 ∷ 45 ∷ 51 ∷ 48 ∷ 93 ∷ 93 ∷ 125 ∷ 125 ∷ 44 ∷ 32 ∷ 123 ∷ 34 ∷ 111 ∷ 112 ∷ 34 ∷ 58 ∷ 34 ∷ 115 ∷ 101 ∷ 108 ∷ 101 ∷ 99 ∷ 116 ∷ 34 ∷ 44 ∷ 34 ∷ 116 ∷ 97 ∷ 98 ∷ 108 ∷ 101 ∷ 34 ∷ 58 ∷ 34 ∷ 80 ∷ 114 ∷ 111 ∷ 98 ∷ 101 ∷ 34 ∷ 44 ∷ 34 ∷ 119 ∷ 104 ∷ 101 ∷ 114 ∷ 101 ∷ 34 ∷ 58 ∷ 91 ∷ 91 ∷ 34 ∷ 110 ∷ 97 ∷ 109 ∷ 101 ∷ 34 ∷ 44 ∷ 34 ∷ 61 ∷ 61 ∷ 34 ∷ 44 ∷ 34 ∷ 112 ∷ 92 ∷ 117 ∷ 48 ∷ 48 ∷ 101 ∷ 57 ∷ 34 ∷ 93 ∷ 93 ∷ 125 ∷ 93 ∷ 10 ∷ []

long : text_at long_text ≡ record { read = Ok 152; tree = arr (item (str (98 ∷ 97 ∷ 116 ∷ 104 ∷ [])) (item (obj (member (111 ∷ 112 ∷ []) (str (105 ∷ 110 ∷ 115 ∷ 101 ∷ 114 ∷ 116 ∷ [])) (member (116 ∷ 97 ∷ 98 ∷ 108 ∷ 101 ∷ []) (str (80 ∷ 114 ∷ 111 ∷ 98 ∷ 101 ∷ [])) (member (114 ∷ 111 ∷ 119 ∷ []) (obj (member (110 ∷ 97 ∷ 109 ∷ 101 ∷ []) (str (112 ∷ 72 ∷ 45 ∷ 49 ∷ [])) (member (120 ∷ []) (arr (item (str (115 ∷ 101 ∷ 116 ∷ [])) (item (arr (item (num (49 ∷ [])) (item (num (50 ∷ [])) (item (num (45 ∷ 51 ∷ 48 ∷ [])) (none))))) (none)))) (empty)))) (empty))))) (item (obj (member (111 ∷ 112 ∷ []) (str (115 ∷ 101 ∷ 108 ∷ 101 ∷ 99 ∷ 116 ∷ [])) (member (116 ∷ 97 ∷ 98 ∷ 108 ∷ 101 ∷ []) (str (80 ∷ 114 ∷ 111 ∷ 98 ∷ 101 ∷ [])) (member (119 ∷ 104 ∷ 101 ∷ 114 ∷ 101 ∷ []) (arr (item (arr (item (str (110 ∷ 97 ∷ 109 ∷ 101 ∷ [])) (item (str (61 ∷ 61 ∷ [])) (item (str (112 ∷ 195 ∷ 169 ∷ [])) (none))))) (none))) (empty))))) (none)))) }
unfolding and_then run passing is_space is_digit within_at word_at then_read in_range is_character utf8 rest_of ranges_at form_at short_of hex_of digit_by digit_from digit_at tested_from tested second_from paired escaped_from going escape_by char_by char_bytes char_adds string_at minus_at sign_at some_from whole_at frac_at is_exp exp_at items members scalar_by key_at comma_or after_item list_at member_at opens dispatch value_at end_at text_at long_text
long = refl

utf_text : List ℕ
utf_text = 123 ∷ 34 ∷ 97 ∷ 34 ∷ 58 ∷ 34 ∷ 195 ∷ 169 ∷ 92 ∷ 117 ∷ 100 ∷ 56 ∷ 51 ∷ 100 ∷ 92 ∷ 117 ∷ 100 ∷ 101 ∷ 48 ∷ 48 ∷ 34 ∷ 44 ∷ 34 ∷ 98 ∷ 34 ∷ 58 ∷ 45 ∷ 48 ∷ 46 ∷ 53 ∷ 101 ∷ 43 ∷ 51 ∷ 44 ∷ 34 ∷ 99 ∷ 34 ∷ 58 ∷ 91 ∷ 116 ∷ 114 ∷ 117 ∷ 101 ∷ 44 ∷ 102 ∷ 97 ∷ 108 ∷ 115 ∷ 101 ∷ 44 ∷ 110 ∷ 117 ∷ 108 ∷ 108 ∷ 44 ∷ 123 ∷ 125 ∷ 93 ∷ 125 ∷ []

utf : text_at utf_text ≡ record { read = Ok 59; tree = obj (member (97 ∷ []) (str (195 ∷ 169 ∷ 240 ∷ 159 ∷ 152 ∷ 128 ∷ [])) (member (98 ∷ []) (num (45 ∷ 48 ∷ 46 ∷ 53 ∷ 101 ∷ 43 ∷ 51 ∷ [])) (member (99 ∷ []) (arr (item (bool true) (item (bool false) (item null (item (obj empty) none))))) empty))) }
unfolding and_then run passing is_space is_digit within_at word_at then_read in_range is_character utf8 rest_of ranges_at form_at short_of hex_of digit_by digit_from digit_at tested_from tested second_from paired escaped_from going escape_by char_by char_bytes char_adds string_at minus_at sign_at some_from whole_at frac_at is_exp exp_at items members scalar_by key_at comma_or after_item list_at member_at opens dispatch value_at end_at text_at utf_text
utf = refl

-- strings with escapes and at the ends of UTF-8's forms: the short escapes, \u0041, \uD83D\uDE00, 0000, halves alone and in the wrong place, what is no escape, the first and last
-- characters of two to four bytes, overlong forms, halves and numbers above 10FFFF in UTF-8, bytes that are missing or out of place, a control character
string_texts : List (List ℕ)
string_texts =
    (34 ∷ 92 ∷ 34 ∷ 92 ∷ 92 ∷ 92 ∷ 47 ∷ 92 ∷ 98 ∷ 92 ∷ 102 ∷ 92 ∷ 110 ∷ 92 ∷ 114 ∷ 92 ∷ 116 ∷ 34 ∷ [])
    ∷ (34 ∷ 92 ∷ 117 ∷ 48 ∷ 48 ∷ 52 ∷ 49 ∷ 34 ∷ [])
    ∷ (34 ∷ 92 ∷ 117 ∷ 68 ∷ 56 ∷ 51 ∷ 68 ∷ 92 ∷ 117 ∷ 68 ∷ 69 ∷ 48 ∷ 48 ∷ 34 ∷ [])
    ∷ (34 ∷ 92 ∷ 117 ∷ 48 ∷ 48 ∷ 48 ∷ 48 ∷ 34 ∷ [])
    ∷ (34 ∷ 92 ∷ 117 ∷ 68 ∷ 67 ∷ 48 ∷ 48 ∷ 34 ∷ [])
    ∷ (34 ∷ 92 ∷ 117 ∷ 68 ∷ 56 ∷ 51 ∷ 68 ∷ 120 ∷ 34 ∷ [])
    ∷ (34 ∷ 92 ∷ 117 ∷ 68 ∷ 56 ∷ 51 ∷ 68 ∷ 92 ∷ 117 ∷ 48 ∷ 48 ∷ 52 ∷ 49 ∷ 34 ∷ [])
    ∷ (34 ∷ 92 ∷ 117 ∷ 68 ∷ 56 ∷ 51 ∷ 68 ∷ 92 ∷ 117 ∷ 68 ∷ 66 ∷ 48 ∷ 48 ∷ 34 ∷ [])
    ∷ (34 ∷ 92 ∷ 117 ∷ 48 ∷ 48 ∷ 103 ∷ 48 ∷ 34 ∷ [])
    ∷ (34 ∷ 92 ∷ 120 ∷ 34 ∷ [])
    ∷ (34 ∷ 194 ∷ 128 ∷ 223 ∷ 191 ∷ 224 ∷ 160 ∷ 128 ∷ 237 ∷ 159 ∷ 191 ∷ 238 ∷ 128 ∷ 128 ∷ 239 ∷ 191 ∷ 191 ∷ 240 ∷ 144 ∷ 128 ∷ 128 ∷ 244 ∷ 143 ∷ 191 ∷ 191 ∷ 34 ∷ [])
    ∷ (34 ∷ 192 ∷ 128 ∷ 34 ∷ [])
    ∷ (34 ∷ 193 ∷ 191 ∷ 34 ∷ [])
    ∷ (34 ∷ 224 ∷ 159 ∷ 191 ∷ 34 ∷ [])
    ∷ (34 ∷ 240 ∷ 143 ∷ 191 ∷ 191 ∷ 34 ∷ [])
    ∷ (34 ∷ 237 ∷ 160 ∷ 128 ∷ 34 ∷ [])
    ∷ (34 ∷ 244 ∷ 144 ∷ 128 ∷ 128 ∷ 34 ∷ [])
    ∷ (34 ∷ 245 ∷ 128 ∷ 128 ∷ 128 ∷ 34 ∷ [])
    ∷ (34 ∷ 128 ∷ 34 ∷ [])
    ∷ (34 ∷ 194 ∷ 34 ∷ [])
    ∷ (34 ∷ 226 ∷ 130 ∷ [])
    ∷ (34 ∷ 31 ∷ 34 ∷ [])
    ∷ []

strings :
    map (λ (s : List ℕ). string_at s 0) string_texts
    ≡ record { read = Ok 18; tree = 34 ∷ 92 ∷ 47 ∷ 8 ∷ 12 ∷ 10 ∷ 13 ∷ 9 ∷ [] }
    ∷ record { read = Ok 8; tree = 65 ∷ [] }
    ∷ record { read = Ok 14; tree = 240 ∷ 159 ∷ 152 ∷ 128 ∷ [] }
    ∷ record { read = Err (Stop 6); tree = [] }
    ∷ record { read = Err (Stop 4); tree = [] }
    ∷ record { read = Err (Stop 7); tree = [] }
    ∷ record { read = Err (Stop 9); tree = [] }
    ∷ record { read = Err (Stop 10); tree = [] }
    ∷ record { read = Err (Stop 5); tree = [] }
    ∷ record { read = Err (Stop 2); tree = [] }
    ∷ record { read = Ok 26; tree = 194 ∷ 128 ∷ 223 ∷ 191 ∷ 224 ∷ 160 ∷ 128 ∷ 237 ∷ 159 ∷ 191 ∷ 238 ∷ 128 ∷ 128 ∷ 239 ∷ 191 ∷ 191 ∷ 240 ∷ 144 ∷ 128 ∷ 128 ∷ 244 ∷ 143 ∷ 191 ∷ 191 ∷ [] }
    ∷ record { read = Err (Stop 1); tree = [] }
    ∷ record { read = Err (Stop 1); tree = [] }
    ∷ record { read = Err (Stop 2); tree = [] }
    ∷ record { read = Err (Stop 2); tree = [] }
    ∷ record { read = Err (Stop 2); tree = [] }
    ∷ record { read = Err (Stop 2); tree = [] }
    ∷ record { read = Err (Stop 1); tree = [] }
    ∷ record { read = Err (Stop 1); tree = [] }
    ∷ record { read = Err (Stop 2); tree = [] }
    ∷ record { read = Err (Stop 3); tree = [] }
    ∷ record { read = Err (Stop 1); tree = [] }
    ∷ []
unfolding and_then run within_at in_range is_character utf8 rest_of ranges_at form_at short_of hex_of digit_by digit_from digit_at tested_from tested second_from paired escaped_from going escape_by char_by char_bytes char_adds string_at string_texts
strings = refl
