-- The text of the drill: a schedule whose commands a number draws.
use Rattle.std.specs.Prelude.{ℕ, zero, suc, ◌+◌, ◌*◌, ◌/◌, ◌%◌, ◌^◌, ◌==◌, nat_lt, List, [], ◌∷◌, ◌++◌, codes, replicate, if◌then◌else◌}
use Rattle.std.specs.Fmt.{decimal}
use Rattle.schedule_text.specs.declared.drill_text.Action.{Action}
use Rattle.schedule_text.specs.declared.drill_text.Action.TheVariants.{Insert, Set, Push, Pop, Replace, Delete, Copy}

-- the number of the generator after a draw
abbrev pub next : ℕ → ℕ
next g = (g * 6364136223846793005 + 1442695040888963407) % 2 ^ 64

-- what a draw below m gives that leaves the generator at g
abbrev pub drawn : ℕ → ℕ → ℕ
drawn m g = (g / 2 ^ 33) % m

-- the action of a draw below 10
abbrev pub action_of : ℕ → Action
action_of t =
    if nat_lt t 4 then Insert
    else (if t == 4 then Set
    else (if t == 5 then Push
    else (if t == 6 then Pop
    else (if t == 7 then Replace
    else (if t == 8 then Delete
    else Copy)))))

abbrev pub joined : List (List ℕ) → List ℕ
joined [] = []
joined (piece ∷ pieces) = piece ++ joined pieces

-- the line of an action with the collection j and the document k, at the place i
abbrev pub row : Action → ℕ → ℕ → ℕ → List ℕ
row Insert j k i = joined (codes "insert d.c" ∷ decimal j ∷ codes " {\"_id\":" ∷ decimal k ∷ codes ",\"a\":[" ∷ decimal i ∷ codes "],\"b\":{\"x\":" ∷ decimal i ∷ codes "},\"p\":\"" ∷ replicate 100 120 ∷ codes "\"}\n" ∷ [])
row Set j k i = joined (codes "update d.c" ∷ decimal j ∷ codes " {\"_id\":" ∷ decimal k ∷ codes ",\"$set\":{\"b.x\":" ∷ decimal i ∷ codes "}}\n" ∷ [])
row Push j k i = joined (codes "update d.c" ∷ decimal j ∷ codes " {\"_id\":" ∷ decimal k ∷ codes ",\"$push\":{\"a\":" ∷ decimal i ∷ codes "}}\n" ∷ [])
row Pop j k i = joined (codes "update d.c" ∷ decimal j ∷ codes " {\"_id\":" ∷ decimal k ∷ codes ",\"$pop\":{\"a\":1}}\n" ∷ [])
row Replace j k i = joined (codes "replace d.c" ∷ decimal j ∷ codes " {\"_id\":" ∷ decimal k ∷ codes ",\"a\":[],\"b\":{\"x\":0}}\n" ∷ [])
row Delete j k i = joined (codes "delete d.c" ∷ decimal j ∷ codes " {\"_id\":" ∷ decimal k ∷ codes "}\n" ∷ [])
row Copy j k i = joined (codes "copy d.c" ∷ decimal j ∷ codes " 7\n" ∷ [])

-- the line of a place, where the generator is at a, b and c after its draws
abbrev pub row_of : ℕ → ℕ → ℕ → ℕ → ℕ → List ℕ
row_of n i a b c = row (action_of (drawn 10 a)) (drawn 4 b) (drawn n c) i

-- the dump starts before the line of the place n / 2 + 1
abbrev pub start : ℕ → ℕ → List ℕ
start n i = if i == n / 2 + 1 then codes "dump\n" else []

abbrev pub lines_at : ℕ → ℕ → ℕ → List ℕ
lines_at n i g = start n i ++ row_of n i (next g) (next (next g)) (next (next (next g)))

-- so many lines, from the place i on, where the generator is at g
unfoldable pub rows : ℕ → ℕ → ℕ → ℕ → List ℕ
rows n zero i g = []
rows n (suc left) i g = lines_at n i g ++ rows n left (i + 1) (next (next (next g)))

abbrev pub creations : List ℕ
creations = codes "oplog 1000000\ncreate d.c0\ncreate d.c1\ncreate d.c2\ncreate d.c3\n"

-- the drill of n
unfoldable pub drill_text : ℕ → List ℕ
drill_text n = creations ++ rows n n 1 n
