-- What every tree that is read has: its strings and its members' names are UTF-8 without 00 (document 01, "strings UTF-8 without 00"). Assumes nothing: these are definitions.
use mathlib.Core.Bool.{Bool, true, ◌&&◌}
use Rattle.model.specs.Json.{Json, null, bool, num, str, arr, obj, Items, none, item, Members, empty, member}
use Rattle.model.specs.Value.{is_utf8}

abbrev mutual
  pub texts_good : Json → Bool
  texts_good null = true
  texts_good (bool b) = true
  texts_good (num t) = true
  texts_good (str t) = is_utf8 t
  texts_good (arr is) = items_good is
  texts_good (obj ms) = members_good ms

  pub items_good : Items → Bool
  items_good none = true
  items_good (item j is) = texts_good j && items_good is

  pub members_good : Members → Bool
  members_good empty = true
  members_good (member w j ms) = is_utf8 w && (texts_good j && members_good ms)
