-- What is told of bytes that are a header, or aren't.
use Rattle.std.proofs.Common.{◌≡◌, ◌++◌, ℕ, List, refl, sym, ap, subst, ◌∙◌, append_assoc}
use Rattle.std.specs.Prelude.{Option, Some, Result, Ok, Err, codes}
use Rattle.std.specs.Result.{result_err, result_ok}
use Rattle.bson_value.specs.declared.value.Value.{Value}
use Rattle.bson_check.specs.declared.fault.BsonFault.{BsonFault}
use Rattle.bson_check.specs.Faults.{first_fault}
use Rattle.archive_format.specs.Archive.{fields_of, head_in, head_fault_in, shaped_in, misshapen_in}
use Rattle.archive_format.specs.Shapes.{Shaped, ShapeFault, Head, ns_head_of, missing_field, wrong_type, bad_ns}
use Rattle.archive_blocks.specs.declared.heads.HeadFault.{HeadFault}
use Rattle.archive_blocks.specs.declared.heads.HeadFault.TheVariants as faults
use Rattle.archive_blocks.specs.Heads.{IsHeadFault}
use Rattle.archive_rows.specs.Rows.{head_answer, head_answer_in, shape_word}

abbrev Read : Type 0
Read = Result (List (List ℕ × Value)) BsonFault

no_fields : (r : Read) (f : BsonFault) → Some f ≡ result_err r → codes "no document" ≡ head_answer_in r
no_fields (Err g) f e = refl
no_fields (Ok fields) f e = cc

pub no_document : (bytes : List ℕ) (f : BsonFault) → Some f ≡ first_fault 16793600 200 bytes → codes "no document" ≡ head_answer_in (fields_of bytes)
unfolding first_fault fields_of
no_document bytes f e = no_fields _ f e

some : {A : Type 0} {a b : A} → Some a ≡ Some b → a ≡ b
some e = cc

shaped_head : (s : Shaped Head) (h : Head) → result_ok s ≡ Some h → head_answer (Ok h) ≡ head_answer s
shaped_head (Ok g) h e = let same : Ok h ≡ Ok g = cc in ap head_answer same
shaped_head (Err f) h e = cc

head_fields : (r : Read) (h : Head) → shaped_in ns_head_of r ≡ Some h → head_answer (Ok h) ≡ head_answer_in r
head_fields (Err f) h e = cc
head_fields (Ok fields) h e = shaped_head (ns_head_of fields) h e

pub is_head : (bytes : List ℕ) (h : Head) → head_in bytes ≡ Some h → head_answer (Ok h) ≡ head_answer_in (fields_of bytes)
unfolding head_in
is_head bytes h e = head_fields _ h e

misshapen_head : (s : Shaped Head) (f : ShapeFault) → result_err s ≡ Some f → shape_word f ≡ head_answer s
misshapen_head (Ok h) f e = cc
misshapen_head (Err g) f e = ap shape_word (some (sym e))

misshapen_fields : (r : Read) (f : ShapeFault) → misshapen_in ns_head_of r ≡ Some f → shape_word f ≡ head_answer_in r
misshapen_fields (Err g) f e = cc
misshapen_fields (Ok fields) f e = misshapen_head (ns_head_of fields) f e

-- a fault is that of a shape
shape_of : (f : HeadFault) (o : Option ShapeFault) → IsHeadFault f o → (shape : ShapeFault) × (o ≡ Some shape)
shape_of faults.MissingField o is = (missing_field is.0, is.1)
shape_of faults.WrongType o is = (wrong_type is.0, is.1)
shape_of faults.BadNs o is = (bad_ns, is)

-- where a word tells of each shape that the fault may be
pub is_no_head : (bytes word : List ℕ) (f : HeadFault) → ((shape : ShapeFault) → IsHeadFault f (Some shape) → word ≡ shape_word shape)
    → IsHeadFault f (head_fault_in bytes) → word ≡ head_answer_in (fields_of bytes)
unfolding head_fault_in
is_no_head bytes word f tells is =
    let shape = shape_of f _ is in
    tells shape.0 (subst (IsHeadFault f) shape.1 is) ∙ misshapen_fields _ shape.0 shape.1

-- what a header says, part by part
pub line_is : (db coll truth told crc : List ℕ) → told ≡ crc → db ++ (codes "." ++ (coll ++ (codes " " ++ (truth ++ (codes " " ++ told))))) ≡ db ++ codes "." ++ coll ++ codes " " ++ truth ++ codes " " ++ crc
line_is db coll truth told crc is = simp (append_assoc, is) refl
