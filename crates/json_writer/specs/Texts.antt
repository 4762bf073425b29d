-- The texts that the writers promise, each the model's: names that stay shut where a proof does not ask for what is inside. Assumes nothing: these are definitions.
use Rattle.std.specs.Prelude.{ℕ, Bool, true, false, List, [], ◌∷◌, ◌++◌, map}
use Rattle.model.specs.Base.{flat, ascii}
use Rattle.model.specs.Octets.{value}
use Rattle.model.specs.Catalog.{base_numbered}
use Rattle.model.specs.Answers.{decimal, integer_text, escaped, quoted, dash_before, uuid_text, bool_text, atom_text, value_text, count_text, insert_text, error_text}
use Rattle.model.specs.Faults.{words}
use Rattle.model.specs.declared.Fault.{Fault}
use Rattle.model.specs.Value.{int_of}

unfoldable pub decimal_text : ℕ → List ℕ
decimal_text n = decimal n

-- an integer atom's text
unfoldable pub integer_in : List ℕ → List ℕ
integer_in a = integer_text (int_of a)

-- a byte of a string
unfoldable pub escaped_text : ℕ → List ℕ
escaped_text b = escaped b

-- the bytes of a string between its quotes, and the whole string
unfoldable pub inside_text : List ℕ → List ℕ
inside_text t = flat (map escaped_text t)

unfoldable pub quoted_text : List ℕ → List ℕ
quoted_text t = quoted t

-- an id by its 16 bytes
unfoldable pub dash_text : ℕ → List ℕ
dash_text k = dash_before k

unfoldable pub id_text : List ℕ → List ℕ
id_text b = uuid_text (value b)

-- atoms
unfoldable pub truth_text : ℕ → List ℕ
truth_text b = bool_text b

unfoldable pub atom_in : ℕ → List ℕ → List ℕ
atom_in kind a = atom_text (base_numbered kind) a

-- texts with a comma before each but the first; before the first too where others came before
unfoldable pub comma_text : Bool → List ℕ
comma_text first = elim first [ true ↦ [] | false ↦ 44 ∷ [] ]

abbrev pub joined : Bool → List (List ℕ) → List ℕ
joined first [] = []
joined first (t ∷ l) = comma_text first ++ (t ++ joined false l)

-- a value: its base type by number, its count and its atoms
unfoldable pub atom_texts : ℕ → List (List ℕ) → List (List ℕ)
atom_texts kind atoms = map (atom_in kind) atoms

unfoldable pub set_text : ℕ → ℕ → List (List ℕ) → List ℕ
set_text kind count atoms = value_text (base_numbered kind) (record { count = count; atoms = atoms })

-- the results of operations, and what a fault is called
unfoldable pub null_text : List ℕ
null_text = ascii "null"

unfoldable pub count_result : ℕ → List ℕ
count_result n = count_text n

unfoldable pub insert_result : List ℕ → List ℕ
insert_result b = insert_text (value b)

unfoldable pub error_result : Fault → List ℕ
error_result f = error_text f

unfoldable pub words_text : Fault → List ℕ
words_text f = words f
