-- The outermost names of wrappers.
use Rattle.std.specs.Prelude.{ℕ, List, [], ◌∷◌, Option, codes}
use Rattle.containers.specs.Entries.{lookup}
use Rattle.extjson.specs.declared.wrapper.Wrapper.{Wrapper}
use Rattle.extjson.specs.declared.wrapper.Wrapper.TheVariants.{Int, Long, Double, DoubleBits, Decimal, DecimalBits, Binary, Undefined, Oid, Date, Regex, Pointer, Code, Symbol, Stamp, MinKey, MaxKey}

unfoldable pub outermost_names : List (List ℕ × Wrapper)
outermost_names =
    (codes "$numberInt", Int)
    ∷ (codes "$numberLong", Long)
    ∷ (codes "$numberDouble", Double)
    ∷ (codes "$numberDoubleBits", DoubleBits)
    ∷ (codes "$numberDecimal", Decimal)
    ∷ (codes "$numberDecimalBits", DecimalBits)
    ∷ (codes "$binary", Binary)
    ∷ (codes "$undefined", Undefined)
    ∷ (codes "$oid", Oid)
    ∷ (codes "$date", Date)
    ∷ (codes "$regularExpression", Regex)
    ∷ (codes "$dbPointer", Pointer)
    ∷ (codes "$code", Code)
    ∷ (codes "$symbol", Symbol)
    ∷ (codes "$timestamp", Stamp)
    ∷ (codes "$minKey", MinKey)
    ∷ (codes "$maxKey", MaxKey)
    ∷ []

-- the wrapper of this outermost name
unfoldable pub wrapper_of : List ℕ → Option Wrapper
wrapper_of name = lookup name outermost_names
