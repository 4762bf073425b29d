-- Definitions that compute together: `unfolding opened` under a signature opens all that reading a schema and running requests uses. Assumes nothing.
use Prim.Native.Nat.{ℕ}
use Rattle.model.specs.Scan.{and_then, run, passing, is_space, is_digit, within_at, word_at, then_read}
use Rattle.model.specs.Strings.{in_range, is_character, utf8, rest_of, ranges_at, form_at, short_of, hex_of, digit_by, digit_from, digit_at, tested_from, tested, second_from, paired, escaped_from, going, escape_by, char_by, char_bytes, char_adds, string_at}
use Rattle.model.specs.Numbers.{minus_at, sign_at, some_from, whole_at, frac_at, is_exp, exp_at}
use Rattle.model.specs.Json.{items, members, scalar_by, key_at, comma_or, after_item, list_at, member_at, opens, dispatch, value_at, end_at, text_at}
use Rattle.model.specs.Nav.{is_read, kind_of, list_of, items_in, text_in}
use Rattle.model.specs.Members.{named_of, members_in, has_member, named_or, value_or, member_value, counting}
use Rattle.model.specs.Whole.{sized, plus_of, minus_of, whole_text, whole_of, is_whole, whole_int}
use Rattle.model.specs.Text.{is_word, begins, chars}
use Rattle.model.specs.SchemaText.{truth_or, only, is_within, size_or, is_letter, is_id_byte, is_id, version_from, is_version, is_base, base_of, members_or, base_number, limit_or, low_of, high_of, key_fits, refers_of, is_max, type_fits, column_fits, column_of, columns_fit, is_lasting, is_indexed, index_fits, indexes_fit, table_fits, table_of, tables_fit, schema_fits, database_of, schema_of, read_schema}
use Rattle.model.specs.Rows.{key_of}
use Rattle.model.specs.Value.{is_utf8}
use Rattle.model.specs.Transact.{read_request}

unfoldable pub opened : ℕ
unfolding and_then run passing is_space is_digit within_at word_at then_read in_range is_character utf8 rest_of ranges_at form_at short_of hex_of digit_by digit_from digit_at tested_from tested second_from paired escaped_from going escape_by char_by char_bytes char_adds string_at minus_at sign_at some_from whole_at frac_at is_exp exp_at items members scalar_by key_at comma_or after_item list_at member_at opens dispatch value_at end_at text_at is_read kind_of list_of items_in text_in named_of members_in has_member named_or value_or member_value counting sized plus_of minus_of whole_text whole_of is_whole whole_int is_word begins chars truth_or only is_within size_or is_letter is_id_byte is_id version_from is_version is_base base_of members_or base_number limit_or low_of high_of key_fits refers_of is_max type_fits column_fits column_of columns_fit is_lasting is_indexed index_fits indexes_fit table_fits table_of tables_fit schema_fits database_of schema_of read_schema key_of is_utf8 read_request
opened = 0
