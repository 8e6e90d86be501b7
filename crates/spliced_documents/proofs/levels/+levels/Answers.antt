use Rattle.std.proofs.Common.{◌≡◌, true, false, rules, arith}
use Rattle.bson_value.proofs.Sizes.{levels-code, levels-object, spelled-code, spelled-object}
use Rattle.spliced_documents.proofs.Shallow.{fields_deep, fields_shallow, goes_on, item_deep, items_deep, items_shallow, leaf_levels}
use Rattle.spliced_documents.proofs.levels.+levels.Goals as goal

pub are_shallow-returns-then-not-is_shallow-clause-deep : goal.are_shallow-returns-then-not-is_shallow-clause-deep
are_shallow-returns-then-not-is_shallow-clause-deep t c =
    let fails : c.is_shallow.result ≡ false = search rules in
    λ e. item_deep _ _ _ _ c.loop-i-test.true c.index-items-i.is (c.is_shallow.ensures.deep fails)

pub are_shallow-loop-i-preserved : goal.are_shallow-loop-i-preserved
are_shallow-loop-i-preserved t c =
    let holds : c.is_shallow.result ≡ true = search rules in
    goes_on _ _ _ _ c.loop-i-test.true c.index-items-i.is c.loop-i.invariant (c.is_shallow.ensures.shallow holds)

pub is_shallow-returns-in-Object-clause-shallow : goal.is_shallow-returns-in-Object-clause-shallow
is_shallow-returns-in-Object-clause-shallow t c = fields_shallow _ _ c.in-Object.doc c.args.levels _ c.in-Object.is (levels-object _) c.fits.ensures

pub is_shallow-returns-in-Object-clause-deep : goal.is_shallow-returns-in-Object-clause-deep
is_shallow-returns-in-Object-clause-deep t c = fields_deep _ _ c.in-Object.doc c.args.levels _ c.in-Object.is (levels-object _) c.fits.ensures (omega (arith, spelled-object c.in-Object.doc))

pub is_shallow-returns-in-Array-clause-shallow : goal.is_shallow-returns-in-Array-clause-shallow
is_shallow-returns-in-Array-clause-shallow t c =
    λ holds. items_shallow _ _ _ c.args.levels c.in-Array.is c.as_slice.ensures (c.are_shallow.ensures.shallow holds)

pub is_shallow-returns-in-Array-clause-deep : goal.is_shallow-returns-in-Array-clause-deep
is_shallow-returns-in-Array-clause-deep t c =
    λ fails. items_deep _ _ _ c.args.levels c.in-Array.is c.as_slice.ensures (c.are_shallow.ensures.deep fails)

pub is_shallow-returns-in-ScopedCode-clause-shallow : goal.is_shallow-returns-in-ScopedCode-clause-shallow
is_shallow-returns-in-ScopedCode-clause-shallow t c = fields_shallow _ _ c.in-ScopedCode.scope c.args.levels _ c.in-ScopedCode.is (levels-code _ _) c.fits-in-ScopedCode.ensures

pub is_shallow-returns-in-ScopedCode-clause-deep : goal.is_shallow-returns-in-ScopedCode-clause-deep
is_shallow-returns-in-ScopedCode-clause-deep t c =
    fields_deep _ _ c.in-ScopedCode.scope c.args.levels _ c.in-ScopedCode.is (levels-code _ _) c.fits-in-ScopedCode.ensures (omega (arith, spelled-code c.in-ScopedCode.code c.in-ScopedCode.scope))

pub is_shallow-returns-in_default : goal.is_shallow-returns-in_default
is_shallow-returns-in_default t c =
    let leaf = leaf_levels c.args.value.now c.in_default.not-Object c.in_default.not-Array c.in_default.not-ScopedCode in
    record {
      shallow = λ holds. omega (arith, leaf);
      deep = λ fails short le. cc;
    }
