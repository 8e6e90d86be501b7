-- A walk over the elements of a document that keeps the first of each name.
use Rattle.std.proofs.Common.{◌≡◌, ℕ, Bool, true, false, List, [], ◌∷◌, refl, sym, ap, ◌∙◌}
use Rattle.std.specs.Prelude.{codes, if◌then◌else◌, Option, Some, None, option_map}
use Rattle.std.specs.Str.{bytes_eq}
use Rattle.containers.specs.Entries.{lookup}
use Rattle.bson_view.specs.declared.elem.Elem.{Elem}
use Rattle.bson_view.specs.Parts.{Part, fields_of}
use Rattle.bson_view.specs.Views.{elem_part, elem_value}
use Rattle.bson_value.specs.declared.value.Value.{Value}
use Rattle.entry_model.specs.Written.{Fields}
use Rattle.entry_reader.specs.declared.found.Found.{Found}
use Rattle.entry_reader.specs.Found.{AreFound, IsNothing, first_after, IsAdded}

-- what a name names, by what was found of it and the elements that are left
abbrev known : List ℕ → Option Elem → List Part → Option Value
known k None ps = lookup k (fields_of ps)
known k (Some e) ps = Some (elem_value e)

-- what was found and the elements that are left name what all fields do
pub record Stands (all : Fields) (f : Found) (left : List Part) : Type 0 where
  pub ts : known (codes "ts") f.ts left ≡ lookup (codes "ts") all
  pub ns : known (codes "ns") f.ns left ≡ lookup (codes "ns") all
  pub op : known (codes "op") f.op left ≡ lookup (codes "op") all
  pub o : known (codes "o") f.o left ≡ lookup (codes "o") all
  pub o2 : known (codes "o2") f.o2 left ≡ lookup (codes "o2") all

module _ (all : Fields) (k : List ℕ) where
  begun : (o : Option Elem) (ps : List Part) → o ≡ None → fields_of ps ≡ all → known k o ps ≡ lookup k all
  begun o ps n e = ap (λ x. known k x ps) n ∙ ap (lookup k) e

  step : (e : Elem) (o : Option Elem) (ps : List Part) → known k (first_after k e o) ps ≡ known k o (elem_part e ∷ ps)
  step e None ps = by (bytes_eq e.name.now k)
    where
      by : (b : Bool) → known k (if b then Some e else None) ps ≡ (if b then Some (elem_value e) else lookup k (fields_of ps))
      by true = refl
      by false = refl
  step e (Some x) ps = by (bytes_eq e.name.now k)
    where
      by : (b : Bool) → known k (if b then Some x else Some x) ps ≡ Some (elem_value x)
      by true = refl
      by false = refl

  gone : (e : Elem) (old new : Option Elem) (left ps : List Part) → left ≡ elem_part e ∷ ps → new ≡ first_after k e old → known k old left ≡ lookup k all → known k new ps ≡ lookup k all
  gone e old new left ps l n s = ap (λ x. known k x ps) n ∙ (step e old ps ∙ (sym (ap (λ qs. known k old qs) l) ∙ s))

  ended : (o : Option Elem) (left : List Part) → left ≡ [] → known k o left ≡ lookup k all → option_map elem_value o ≡ lookup k all
  ended None left l s = sym (ap (λ qs. lookup k (fields_of qs)) l) ∙ s
  ended (Some e) left l s = s

pub starts : (all : Fields) (f : Found) (left : List Part) → IsNothing f → fields_of left ≡ all → Stands all f left
starts all f left n e = record {
  ts = begun all (codes "ts") f.ts left n.ts e;
  ns = begun all (codes "ns") f.ns left n.ns e;
  op = begun all (codes "op") f.op left n.op e;
  o = begun all (codes "o") f.o left n.o e;
  o2 = begun all (codes "o2") f.o2 left n.o2 e;
}

pub goes_on : (all : Fields) (old new : Found) (left : List Part) (e : Elem) (ps : List Part) → left ≡ elem_part e ∷ ps → IsAdded e old new → Stands all old left → Stands all new ps
goes_on all old new left e ps l a s = record {
  ts = gone all (codes "ts") e old.ts new.ts left ps l a.ts s.ts;
  ns = gone all (codes "ns") e old.ns new.ns left ps l a.ns s.ns;
  op = gone all (codes "op") e old.op new.op left ps l a.op s.op;
  o = gone all (codes "o") e old.o new.o left ps l a.o s.o;
  o2 = gone all (codes "o2") e old.o2 new.o2 left ps l a.o2 s.o2;
}

pub ends : (all : Fields) (f : Found) (left : List Part) → left ≡ [] → Stands all f left → AreFound f all
ends all f left l s = record {
  ts = ended all (codes "ts") f.ts left l s.ts;
  ns = ended all (codes "ns") f.ns left l s.ns;
  op = ended all (codes "op") f.op left l s.op;
  o = ended all (codes "o") f.o left l s.o;
  o2 = ended all (codes "o2") f.o2 left l s.o2;
}
