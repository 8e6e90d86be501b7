-- Numbers by names that rise.
use Rattle.std.specs.Prelude.{⊤, ℕ, List, [], ◌∷◌, Option, Vec, map as each}
use Rattle.std.specs.declared.alloc.Global.{Global}
use Rattle.std.specs.Coded.{Coded, coded×, coded_ℕ, coded_list, coded_option}
use Rattle.bson_value.specs.declared.namespace.NsName.{NsName}
use Rattle.bson_value.specs.NamespaceOrder.{namespace_cmp}
use Rattle.state_model.specs.Keys.{Key, key_cmp}
use Rattle.coll_state.specs.Codes.{bytes_code, name_code}
use Rattle.coll_state.specs.Stock.{Rise}
use Rattle.index_build.specs.Numbers.{Numbers}

abbrev pub numbers_code : Coded Numbers
numbers_code = coded_list (coded× name_code (coded_list (coded× bytes_code (coded_option coded_ℕ))))

-- the numbers, as the code has them
abbrev pub NumbersVec : Type 0
NumbersVec = Vec (Key × Option ℕ) Global

abbrev pub numbers_told : List (NsName × NumbersVec) → Numbers
numbers_told es = each (λ e. (e.0, e.1.items)) es

abbrev pub index_name : Key × Option ℕ → Key
index_name e = e.0

abbrev pub space_name : NsName × List (Key × Option ℕ) → NsName
space_name e = e.0

abbrev pub AllRise : Numbers → Type 0
AllRise [] = ⊤
AllRise (e ∷ es) = Rise key_cmp index_name e.1 × AllRise es

-- collections by their names, and the indexes of each by theirs
pub record AreByName (c : Numbers) : Type 0 where
  pub spaces : Rise namespace_cmp space_name c
  pub indexes : AllRise c
