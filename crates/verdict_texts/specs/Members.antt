-- The parts of objects of JSON that formats have in common.
use Rattle.std.specs.Prelude.{ℕ, ℤ, List, ◌∷◌, ◌++◌, codes}
use Rattle.std.specs.Fmt.{signed_decimal}
use Rattle.verdict_texts.specs.JsonStrings.{json_string}

-- the name of an object's first member
unfoldable pub key : List ℕ → List ℕ
key name = 34 ∷ (name ++ codes "\":")

-- the name of a further member
unfoldable pub next_key : List ℕ → List ℕ
next_key name = 44 ∷ 34 ∷ (name ++ codes "\":")

-- a text as an object's first member
unfoldable pub text_member : List ℕ → List ℕ → List ℕ
text_member name text = key name ++ json_string text

-- a text as a further member
unfoldable pub next_text_member : List ℕ → List ℕ → List ℕ
next_text_member name text = next_key name ++ json_string text

-- a number as an object's first member
unfoldable pub number_member : List ℕ → ℤ → List ℕ
number_member name number = key name ++ signed_decimal number

-- a number as a further member
unfoldable pub next_number_member : List ℕ → ℤ → List ℕ
next_number_member name number = next_key name ++ signed_decimal number

-- an object whose only member is a text
unfoldable pub text_object : List ℕ → List ℕ
text_object text = codes "{" ++ (text_member (codes "text") text ++ codes "}")
