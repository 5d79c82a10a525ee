use Rattle.std.proofs.Common.{rules, refl, ap, sym, ◌∙◌}
use Rattle.fz_globals.specs.of_meaning.Builtins.{row_at}
use Rattle.fz_globals.specs.of_meaning.Relations.{◌=ℤ◌, ◌=ᴮ◌, ◌=ˢ◌}
use Rattle.fz_globals.specs.of_meaning.Results.{result_of}
use Rattle.fz_globals.specs.of_meaning.declared.builtin.Builtin.TheVariants.{GecodeArraySetElementUnion, GecodeRange}
use Rattle.fz_globals.specs.of_kernel.Views.{arguments_of, assigned}
use Rattle.fz_builtins.specs.declared.outcome.Outcome.TheVariants.{Truth}
use Rattle.fz_builtins.specs.Outcomes.{row_outcome}
use Rattle.fz_builtins.specs.Said.{is_result}
use Rattle.fz_builtins.proofs.RowTests.{element_is, none_told, number_is, one_sum, said_at, same_bool_either_way, same_int_either_way, same_set_either_way, two_sums, value_is}
use Rattle.fz_builtins.proofs.builtins.said_of.Goals as goal

pub returns-in-IntEq : goal.returns-in-IntEq
returns-in-IntEq c = rw c.in-IntEq.is c.int_eq.ensures

pub returns-in-IntNe : goal.returns-in-IntNe
unfolding row_outcome row_at result_of
returns-in-IntNe c = rw c.in-IntNe.is (ap Truth (search rules), tt)

pub returns-in-IntLe : goal.returns-in-IntLe
unfolding row_outcome row_at result_of
returns-in-IntLe c = rw c.in-IntLe.is (ap Truth (search rules), tt)

pub returns-in-IntLt : goal.returns-in-IntLt
unfolding row_outcome row_at result_of
returns-in-IntLt c = rw c.in-IntLt.is (ap Truth (search rules), tt)

pub returns-in-IntGe : goal.returns-in-IntGe
unfolding row_outcome row_at result_of
returns-in-IntGe c = rw c.in-IntGe.is (ap Truth (search rules), tt)

pub returns-in-IntGt : goal.returns-in-IntGt
unfolding row_outcome row_at result_of
returns-in-IntGt c = rw c.in-IntGt.is (ap Truth (search rules), tt)

pub returns-in-IntLinEq : goal.returns-in-IntLinEq
unfolding row_outcome row_at result_of
returns-in-IntLinEq c = rw c.in-IntLinEq.is (c.int_lin_eq.ensures ∙ one_sum _ _, none_told _ _ tt)

pub returns-in-IntLinNe : goal.returns-in-IntLinNe
unfolding row_outcome row_at result_of
returns-in-IntLinNe c = rw c.in-IntLinNe.is (c.int_lin_ne.ensures ∙ one_sum _ _, none_told _ _ tt)

pub returns-in-IntLinLe : goal.returns-in-IntLinLe
unfolding row_outcome row_at result_of
returns-in-IntLinLe c = rw c.in-IntLinLe.is (c.int_lin_le.ensures ∙ one_sum _ _, none_told _ _ tt)

pub returns-in-IntPlus : goal.returns-in-IntPlus
unfolding result_of row_at
returns-in-IntPlus c = rw c.in-IntPlus.is ((refl, refl, refl), number_is {x = c.sum.result} (search rules) (search rules))

pub returns-in-IntMinus : goal.returns-in-IntMinus
unfolding result_of row_at
returns-in-IntMinus c = rw c.in-IntMinus.is ((refl, refl, refl), number_is c.int_minus.ensures (search rules))

pub returns-in-IntTimes : goal.returns-in-IntTimes
unfolding result_of row_at
returns-in-IntTimes c = rw c.in-IntTimes.is ((refl, refl, refl), number_is {x = c.product.result} (search rules) (search rules))

pub returns-in-IntMin : goal.returns-in-IntMin
unfolding result_of row_at
returns-in-IntMin c = rw c.in-IntMin.is ((refl, refl, refl), number_is c.int_min.ensures (search rules))

pub returns-in-IntMax : goal.returns-in-IntMax
unfolding result_of row_at
returns-in-IntMax c = rw c.in-IntMax.is ((refl, refl, refl), number_is c.int_max.ensures (search rules))

pub returns-in-IntAbs : goal.returns-in-IntAbs
unfolding result_of row_at
returns-in-IntAbs c = rw c.in-IntAbs.is ((refl, refl, refl), number_is {x = c.absolute.result} (search rules) (search rules))

pub returns-in-IntNegate : goal.returns-in-IntNegate
unfolding result_of row_at
returns-in-IntNegate c = rw c.in-IntNegate.is ((refl, refl, refl), number_is c.int_negate.ensures (search rules))

pub returns-in-IntDiv : goal.returns-in-IntDiv
unfolding result_of row_at
returns-in-IntDiv c = rw c.in-IntDiv.is ((refl, refl, refl), search rules)

pub returns-in-IntMod : goal.returns-in-IntMod
unfolding result_of row_at
returns-in-IntMod c = rw c.in-IntMod.is ((refl, refl, refl), search rules)

pub returns-in-IntPow : goal.returns-in-IntPow
returns-in-IntPow c = rw c.in-IntPow.is c.int_pow.ensures

pub returns-in-ArrayIntElement : goal.returns-in-ArrayIntElement
unfolding result_of row_at
returns-in-ArrayIntElement c = rw c.in-ArrayIntElement.is ((refl, refl, refl), element_is ◌=ℤ◌ same_int_either_way (c.wide.ensures ∙ c.int_element.ensures))

pub returns-in-ArrayIntMaximum : goal.returns-in-ArrayIntMaximum
unfolding result_of row_at
returns-in-ArrayIntMaximum c = rw c.in-ArrayIntMaximum.is ((refl, refl, refl), λ v. c.int_maximum.ensures v ∙ ap (λ o. is_result ◌=ℤ◌ o v) (sym c.wide-in-ArrayIntMaximum.ensures))

pub returns-in-ArrayIntMinimum : goal.returns-in-ArrayIntMinimum
unfolding result_of row_at
returns-in-ArrayIntMinimum c = rw c.in-ArrayIntMinimum.is ((refl, refl, refl), λ v. c.int_minimum.ensures v ∙ ap (λ o. is_result ◌=ℤ◌ o v) (sym c.wide-in-ArrayIntMinimum.ensures))

pub returns-in_ok-int_all_different-in-FznAllDifferentInt : goal.returns-in_ok-int_all_different-in-FznAllDifferentInt
unfolding row_outcome row_at result_of
returns-in_ok-int_all_different-in-FznAllDifferentInt c = rw c.in-FznAllDifferentInt.is (ap Truth c.in_ok-int_all_different-in-FznAllDifferentInt.ensures, tt)

pub returns-in-BoolEq : goal.returns-in-BoolEq
returns-in-BoolEq c = rw c.in-BoolEq.is c.bool_eq.ensures

pub returns-in-BoolLe : goal.returns-in-BoolLe
unfolding row_outcome row_at result_of
returns-in-BoolLe c = rw c.in-BoolLe.is (ap Truth (search rules), tt)

pub returns-in-BoolLt : goal.returns-in-BoolLt
unfolding row_outcome row_at result_of
returns-in-BoolLt c = rw c.in-BoolLt.is (ap Truth (search rules), tt)

pub returns-in-BoolGe : goal.returns-in-BoolGe
unfolding row_outcome row_at result_of
returns-in-BoolGe c = rw c.in-BoolGe.is (ap Truth (search rules), tt)

pub returns-in-BoolGt : goal.returns-in-BoolGt
unfolding row_outcome row_at result_of
returns-in-BoolGt c = rw c.in-BoolGt.is (ap Truth (search rules), tt)

pub returns-in-BoolNot : goal.returns-in-BoolNot
returns-in-BoolNot c = rw c.in-BoolNot.is c.bool_not.ensures

pub returns-in-BoolAnd : goal.returns-in-BoolAnd
unfolding result_of row_at
returns-in-BoolAnd c = rw c.in-BoolAnd.is ((refl, refl, refl), value_is ◌=ᴮ◌ c.bool_and.ensures)

pub returns-in-BoolOr : goal.returns-in-BoolOr
unfolding result_of row_at
returns-in-BoolOr c = rw c.in-BoolOr.is ((refl, refl, refl), value_is ◌=ᴮ◌ c.bool_or.ensures)

pub returns-in-BoolXor : goal.returns-in-BoolXor
unfolding result_of row_at
returns-in-BoolXor c = rw c.in-BoolXor.is ((refl, refl, refl), value_is ◌=ᴮ◌ (search rules))

pub returns-in-BoolAndImp : goal.returns-in-BoolAndImp
unfolding row_outcome row_at result_of
returns-in-BoolAndImp c = rw c.in-BoolAndImp.is (ap Truth (search rules), tt)

pub returns-in-BoolOrImp : goal.returns-in-BoolOrImp
unfolding row_outcome row_at result_of
returns-in-BoolOrImp c = rw c.in-BoolOrImp.is (ap Truth (search rules), tt)

pub returns-in-BoolXorImp : goal.returns-in-BoolXorImp
unfolding row_outcome row_at result_of
returns-in-BoolXorImp c = rw c.in-BoolXorImp.is (ap Truth (search rules), tt)

pub returns-in-ArrayBoolAnd : goal.returns-in-ArrayBoolAnd
unfolding result_of row_at
returns-in-ArrayBoolAnd c = rw c.in-ArrayBoolAnd.is ((refl, refl, refl), value_is ◌=ᴮ◌ c.bool_all.ensures)

pub returns-in-ArrayBoolOr : goal.returns-in-ArrayBoolOr
unfolding result_of row_at
returns-in-ArrayBoolOr c = rw c.in-ArrayBoolOr.is ((refl, refl, refl), value_is ◌=ᴮ◌ c.bool_any.ensures)

pub returns-in-ArrayBoolAndImp : goal.returns-in-ArrayBoolAndImp
unfolding row_outcome row_at result_of
returns-in-ArrayBoolAndImp c = rw c.in-ArrayBoolAndImp.is (ap Truth (search rules), tt)

pub returns-in-ArrayBoolOrImp : goal.returns-in-ArrayBoolOrImp
unfolding row_outcome row_at result_of
returns-in-ArrayBoolOrImp c = rw c.in-ArrayBoolOrImp.is (ap Truth (search rules), tt)

pub returns-in-ArrayBoolXor : goal.returns-in-ArrayBoolXor
unfolding row_outcome row_at result_of
returns-in-ArrayBoolXor c = rw c.in-ArrayBoolXor.is (ap Truth c.bool_odd.ensures, tt)

pub returns-in-ArrayBoolElement : goal.returns-in-ArrayBoolElement
unfolding result_of row_at
returns-in-ArrayBoolElement c = rw c.in-ArrayBoolElement.is ((refl, refl, refl), element_is ◌=ᴮ◌ same_bool_either_way c.bool_element.ensures)

pub returns-in-BoolClause : goal.returns-in-BoolClause
unfolding row_outcome row_at result_of
returns-in-BoolClause c = rw c.in-BoolClause.is (ap Truth c.bool_clause.ensures, tt)

pub returns-in-Bool2Int : goal.returns-in-Bool2Int
returns-in-Bool2Int c = rw c.in-Bool2Int.is c.bool2int.ensures

pub returns-in-BoolLinEq : goal.returns-in-BoolLinEq
unfolding result_of row_at
returns-in-BoolLinEq c = rw c.in-BoolLinEq.is ((refl, refl, refl), λ v. same_int_either_way _ v ∙ number_is c.bool_sum.ensures (search rules) v)

pub returns-in-BoolLinLe : goal.returns-in-BoolLinLe
unfolding row_outcome row_at result_of
returns-in-BoolLinLe c = rw c.in-BoolLinLe.is (ap Truth (search rules), tt)

pub returns-in-BoolLinNe : goal.returns-in-BoolLinNe
unfolding row_outcome row_at result_of
returns-in-BoolLinNe c = rw c.in-BoolLinNe.is (ap Truth (search rules), tt)

pub returns-in-BoolLinLt : goal.returns-in-BoolLinLt
unfolding row_outcome row_at result_of
returns-in-BoolLinLt c = rw c.in-BoolLinLt.is (ap Truth (search rules), tt)

pub returns-in-BoolLinGe : goal.returns-in-BoolLinGe
unfolding row_outcome row_at result_of
returns-in-BoolLinGe c = rw c.in-BoolLinGe.is (ap Truth (search rules), tt)

pub returns-in-BoolLinGt : goal.returns-in-BoolLinGt
unfolding row_outcome row_at result_of
returns-in-BoolLinGt c = rw c.in-BoolLinGt.is (ap Truth (search rules), tt)

pub returns-in-SetIn : goal.returns-in-SetIn
unfolding row_outcome row_at result_of
returns-in-SetIn c = rw c.in-SetIn.is (ap Truth (search rules), tt)

pub returns-in-SetEq : goal.returns-in-SetEq
returns-in-SetEq c = rw c.in-SetEq.is c.set_eq.ensures

pub returns-in-SetNe : goal.returns-in-SetNe
unfolding row_outcome row_at result_of
returns-in-SetNe c = rw c.in-SetNe.is (ap Truth (search rules), tt)

pub returns-in-SetSubset : goal.returns-in-SetSubset
unfolding row_outcome row_at result_of
returns-in-SetSubset c = rw c.in-SetSubset.is (ap Truth (search rules), tt)

pub returns-in-SetSuperset : goal.returns-in-SetSuperset
unfolding row_outcome row_at result_of
returns-in-SetSuperset c = rw c.in-SetSuperset.is (ap Truth (search rules), tt)

pub returns-in_ok-union-in-SetUnion : goal.returns-in_ok-union-in-SetUnion
unfolding result_of row_at
returns-in_ok-union-in-SetUnion c = rw c.in-SetUnion.is ((refl, refl, refl), value_is ◌=ˢ◌ (search rules))

pub returns-in_ok-intersect-in-SetIntersect : goal.returns-in_ok-intersect-in-SetIntersect
unfolding result_of row_at
returns-in_ok-intersect-in-SetIntersect c = rw c.in-SetIntersect.is ((refl, refl, refl), value_is ◌=ˢ◌ (search rules))

pub returns-in_ok-minus-in-SetDiff : goal.returns-in_ok-minus-in-SetDiff
unfolding result_of row_at
returns-in_ok-minus-in-SetDiff c = rw c.in-SetDiff.is ((refl, refl, refl), value_is ◌=ˢ◌ (search rules))

pub returns-in_ok-symdiff-in-SetSymdiff : goal.returns-in_ok-symdiff-in-SetSymdiff
unfolding result_of row_at
returns-in_ok-symdiff-in-SetSymdiff c = rw c.in-SetSymdiff.is ((refl, refl, refl), value_is ◌=ˢ◌ (search rules))

pub returns-in-SetCard : goal.returns-in-SetCard
unfolding result_of row_at
returns-in-SetCard c = rw c.in-SetCard.is ((refl, refl, refl), number_is c.set_card.ensures (search rules))

pub returns-in_ok-convex-in-SetConvex : goal.returns-in_ok-convex-in-SetConvex
unfolding row_outcome row_at result_of
returns-in_ok-convex-in-SetConvex c = rw c.in-SetConvex.is (ap Truth c.in_ok-convex-in-SetConvex.ensures, tt)

pub returns-in-ArraySetElement : goal.returns-in-ArraySetElement
unfolding result_of row_at
returns-in-ArraySetElement c = rw c.in-ArraySetElement.is ((refl, refl, refl), element_is ◌=ˢ◌ same_set_either_way c.set_element.ensures)

pub returns-in-GecodeArraySetElementUnion : goal.returns-in-GecodeArraySetElementUnion
returns-in-GecodeArraySetElementUnion c = rw c.in-GecodeArraySetElementUnion.is (said_at (row_at GecodeArraySetElementUnion) (assigned c.args.view.now) (arguments_of c.args.view.now) c.args.first c.set_element_union.result c.set_element_union.ensures)

pub returns-in_ok-different_but_zeros-in-FznAlldifferentExcept0 : goal.returns-in_ok-different_but_zeros-in-FznAlldifferentExcept0
unfolding row_outcome row_at result_of
returns-in_ok-different_but_zeros-in-FznAlldifferentExcept0 c = rw c.in-FznAlldifferentExcept0.is (ap Truth c.in_ok-different_but_zeros-in-FznAlldifferentExcept0.ensures, tt)

pub returns-in-FznAllEqualInt : goal.returns-in-FznAllEqualInt
unfolding row_outcome row_at result_of
returns-in-FznAllEqualInt c = rw c.in-FznAllEqualInt.is (ap Truth c.all_equal_int.ensures, tt)

pub returns-in-FznCountEq : goal.returns-in-FznCountEq
unfolding result_of row_at
returns-in-FznCountEq c = rw c.in-FznCountEq.is ((refl, refl, refl), number_is {x = c.count.result} (search rules) (search rules))

pub returns-in-FznCountNeq : goal.returns-in-FznCountNeq
unfolding row_outcome row_at result_of
returns-in-FznCountNeq c = rw c.in-FznCountNeq.is (ap Truth (search rules), tt)

pub returns-in-FznCountGeq : goal.returns-in-FznCountGeq
unfolding row_outcome row_at result_of
returns-in-FznCountGeq c = rw c.in-FznCountGeq.is (ap Truth (search rules), tt)

pub returns-in-FznCountGt : goal.returns-in-FznCountGt
unfolding row_outcome row_at result_of
returns-in-FznCountGt c = rw c.in-FznCountGt.is (ap Truth (search rules), tt)

pub returns-in-FznCountLeq : goal.returns-in-FznCountLeq
unfolding row_outcome row_at result_of
returns-in-FznCountLeq c = rw c.in-FznCountLeq.is (ap Truth (search rules), tt)

pub returns-in-FznCountLt : goal.returns-in-FznCountLt
unfolding row_outcome row_at result_of
returns-in-FznCountLt c = rw c.in-FznCountLt.is (ap Truth (search rules), tt)

pub returns-in-FznAmong : goal.returns-in-FznAmong
unfolding result_of row_at
returns-in-FznAmong c = rw c.in-FznAmong.is ((refl, refl, refl), number_is c.among.ensures (search rules))

pub returns-in_ok-number_of_values-in-FznNvalue : goal.returns-in_ok-number_of_values-in-FznNvalue
unfolding result_of row_at
returns-in_ok-number_of_values-in-FznNvalue c = rw c.in-FznNvalue.is ((refl, refl, refl), number_is c.in_ok-number_of_values-in-FznNvalue.ensures (search rules))

pub returns-in-FznAtLeastInt : goal.returns-in-FznAtLeastInt
unfolding row_outcome row_at result_of
returns-in-FznAtLeastInt c = rw c.in-FznAtLeastInt.is (ap Truth (search rules), tt)

pub returns-in-FznAtMostInt : goal.returns-in-FznAtMostInt
unfolding row_outcome row_at result_of
returns-in-FznAtMostInt c = rw c.in-FznAtMostInt.is (ap Truth (search rules), tt)

pub returns-in-FznExactlyInt : goal.returns-in-FznExactlyInt
unfolding row_outcome row_at result_of
returns-in-FznExactlyInt c = rw c.in-FznExactlyInt.is (ap Truth (search rules), tt)

pub returns-in_ok-cardinality-in-FznGlobalCardinality : goal.returns-in_ok-cardinality-in-FznGlobalCardinality
unfolding row_outcome row_at result_of
returns-in_ok-cardinality-in-FznGlobalCardinality c = rw c.in-FznGlobalCardinality.is (ap Truth c.in_ok-cardinality-in-FznGlobalCardinality.ensures, tt)

pub returns-in_ok-cardinality_closed-in-FznGlobalCardinalityClosed : goal.returns-in_ok-cardinality_closed-in-FznGlobalCardinalityClosed
unfolding row_outcome row_at result_of
returns-in_ok-cardinality_closed-in-FznGlobalCardinalityClosed c = rw c.in-FznGlobalCardinalityClosed.is (ap Truth c.in_ok-cardinality_closed-in-FznGlobalCardinalityClosed.ensures, tt)

pub returns-in_ok-cardinality_between-in-FznGlobalCardinalityLowUp : goal.returns-in_ok-cardinality_between-in-FznGlobalCardinalityLowUp
unfolding row_outcome row_at result_of
returns-in_ok-cardinality_between-in-FznGlobalCardinalityLowUp c = rw c.in-FznGlobalCardinalityLowUp.is (ap Truth c.in_ok-cardinality_between-in-FznGlobalCardinalityLowUp.ensures, tt)

pub returns-in_ok-cardinality_between_closed-in-FznGlobalCardinalityLowUpClosed : goal.returns-in_ok-cardinality_between_closed-in-FznGlobalCardinalityLowUpClosed
unfolding row_outcome row_at result_of
returns-in_ok-cardinality_between_closed-in-FznGlobalCardinalityLowUpClosed c = rw c.in-FznGlobalCardinalityLowUpClosed.is (ap Truth c.in_ok-cardinality_between_closed-in-FznGlobalCardinalityLowUpClosed.ensures, tt)

pub returns-in_ok-distribute-in-FznDistribute : goal.returns-in_ok-distribute-in-FznDistribute
unfolding row_outcome row_at result_of
returns-in_ok-distribute-in-FznDistribute c = rw c.in-FznDistribute.is (ap Truth c.in_ok-distribute-in-FznDistribute.ensures, tt)

pub returns-in-FznCumulative : goal.returns-in-FznCumulative
unfolding row_outcome row_at result_of
returns-in-FznCumulative c = rw c.in-FznCumulative.is (ap Truth c.cumulative.ensures, tt)

pub returns-in-FznDisjunctive : goal.returns-in-FznDisjunctive
unfolding row_outcome row_at result_of
returns-in-FznDisjunctive c = rw c.in-FznDisjunctive.is (ap Truth c.disjunctive.ensures, tt)

pub returns-in-FznDisjunctiveStrict : goal.returns-in-FznDisjunctiveStrict
unfolding row_outcome row_at result_of
returns-in-FznDisjunctiveStrict c = rw c.in-FznDisjunctiveStrict.is (ap Truth c.disjunctive_strict.ensures, tt)

pub returns-in-GecodeScheduleUnary : goal.returns-in-GecodeScheduleUnary
unfolding row_outcome row_at result_of
returns-in-GecodeScheduleUnary c = rw c.in-GecodeScheduleUnary.is (ap Truth c.schedule_unary.ensures, tt)

pub returns-in-FznDiffn : goal.returns-in-FznDiffn
unfolding row_outcome row_at result_of
returns-in-FznDiffn c = rw c.in-FznDiffn.is (ap Truth c.diffn.ensures, tt)

pub returns-in-FznDiffnNonstrict : goal.returns-in-FznDiffnNonstrict
unfolding row_outcome row_at result_of
returns-in-FznDiffnNonstrict c = rw c.in-FznDiffnNonstrict.is (ap Truth c.diffn_nonstrict.ensures, tt)

pub returns-in-GecodeNooverlap : goal.returns-in-GecodeNooverlap
unfolding row_outcome row_at result_of
returns-in-GecodeNooverlap c = rw c.in-GecodeNooverlap.is (ap Truth c.nooverlap.ensures, tt)

pub returns-in-GecodeCircuit : goal.returns-in-GecodeCircuit
unfolding row_outcome row_at result_of
returns-in-GecodeCircuit c = rw c.in-GecodeCircuit.is (ap Truth c.circuit.ensures, tt)

pub returns-in_ok-subcircuit-in-FzcheckSubcircuit : goal.returns-in_ok-subcircuit-in-FzcheckSubcircuit
unfolding row_outcome row_at result_of
returns-in_ok-subcircuit-in-FzcheckSubcircuit c = rw c.in-FzcheckSubcircuit.is (ap Truth c.in_ok-subcircuit-in-FzcheckSubcircuit.ensures, tt)

pub returns-in-InverseOffsets : goal.returns-in-InverseOffsets
unfolding row_outcome row_at result_of
returns-in-InverseOffsets c = rw c.in-InverseOffsets.is (ap Truth c.inverse.ensures, tt)

pub returns-in-FznTableInt : goal.returns-in-FznTableInt
unfolding row_outcome row_at result_of
returns-in-FznTableInt c = rw c.in-FznTableInt.is (ap Truth c.table_int.ensures, tt)

pub returns-in-FznTableBool : goal.returns-in-FznTableBool
unfolding row_outcome row_at result_of
returns-in-FznTableBool c = rw c.in-FznTableBool.is (ap Truth c.table_bool.ensures, tt)

pub returns-in-FznRegular : goal.returns-in-FznRegular
unfolding row_outcome row_at result_of
returns-in-FznRegular c = rw c.in-FznRegular.is (ap Truth c.regular.ensures, tt)

pub returns-in-FznBinPacking : goal.returns-in-FznBinPacking
unfolding row_outcome row_at result_of
returns-in-FznBinPacking c = rw c.in-FznBinPacking.is (ap Truth c.bin_packing.ensures, tt)

pub returns-in-GecodeBinPackingLoad : goal.returns-in-GecodeBinPackingLoad
unfolding row_outcome row_at result_of
returns-in-GecodeBinPackingLoad c = rw c.in-GecodeBinPackingLoad.is (ap Truth c.bin_packing_load.ensures, tt)

pub returns-in-FznLexLessInt : goal.returns-in-FznLexLessInt
unfolding row_outcome row_at result_of
returns-in-FznLexLessInt c = rw c.in-FznLexLessInt.is (ap Truth c.lex_less_int.ensures, tt)

pub returns-in-FznLexLesseqInt : goal.returns-in-FznLexLesseqInt
unfolding row_outcome row_at result_of
returns-in-FznLexLesseqInt c = rw c.in-FznLexLesseqInt.is (ap Truth c.lex_lesseq_int.ensures, tt)

pub returns-in-FznLexLessBool : goal.returns-in-FznLexLessBool
unfolding row_outcome row_at result_of
returns-in-FznLexLessBool c = rw c.in-FznLexLessBool.is (ap Truth c.lex_less_bool.ensures, tt)

pub returns-in-FznLexLesseqBool : goal.returns-in-FznLexLesseqBool
unfolding row_outcome row_at result_of
returns-in-FznLexLesseqBool c = rw c.in-FznLexLesseqBool.is (ap Truth c.lex_lesseq_bool.ensures, tt)

pub returns-in-FznIncreasingInt : goal.returns-in-FznIncreasingInt
unfolding row_outcome row_at result_of
returns-in-FznIncreasingInt c = rw c.in-FznIncreasingInt.is (ap Truth c.increasing_int.ensures, tt)

pub returns-in-FznIncreasingBool : goal.returns-in-FznIncreasingBool
unfolding row_outcome row_at result_of
returns-in-FznIncreasingBool c = rw c.in-FznIncreasingBool.is (ap Truth c.increasing_bool.ensures, tt)

pub returns-in-FznDecreasingInt : goal.returns-in-FznDecreasingInt
unfolding row_outcome row_at result_of
returns-in-FznDecreasingInt c = rw c.in-FznDecreasingInt.is (ap Truth c.decreasing_int.ensures, tt)

pub returns-in-FznDecreasingBool : goal.returns-in-FznDecreasingBool
unfolding row_outcome row_at result_of
returns-in-FznDecreasingBool c = rw c.in-FznDecreasingBool.is (ap Truth c.decreasing_bool.ensures, tt)

pub returns-in-FznStrictlyIncreasingInt : goal.returns-in-FznStrictlyIncreasingInt
unfolding row_outcome row_at result_of
returns-in-FznStrictlyIncreasingInt c = rw c.in-FznStrictlyIncreasingInt.is (ap Truth c.strictly_increasing_int.ensures, tt)

pub returns-in-FznValuePrecedeInt : goal.returns-in-FznValuePrecedeInt
unfolding row_outcome row_at result_of
returns-in-FznValuePrecedeInt c = rw c.in-FznValuePrecedeInt.is (ap Truth c.value_precede.ensures, tt)

pub returns-in-GecodePrecede : goal.returns-in-GecodePrecede
unfolding row_outcome row_at result_of
returns-in-GecodePrecede c = rw c.in-GecodePrecede.is (ap Truth c.precede.ensures, tt)

pub returns-in-GecodePrecedeSet : goal.returns-in-GecodePrecedeSet
unfolding row_outcome row_at result_of
returns-in-GecodePrecedeSet c = rw c.in-GecodePrecedeSet.is (ap Truth c.precede_set.ensures, tt)

pub returns-in_ok-value_precede_chain-in-FznValuePrecedeChainInt : goal.returns-in_ok-value_precede_chain-in-FznValuePrecedeChainInt
unfolding row_outcome row_at result_of
returns-in_ok-value_precede_chain-in-FznValuePrecedeChainInt c = rw c.in-FznValuePrecedeChainInt.is (ap Truth c.in_ok-value_precede_chain-in-FznValuePrecedeChainInt.ensures, tt)

pub returns-in-FznSeqPrecedeChainInt : goal.returns-in-FznSeqPrecedeChainInt
unfolding row_outcome row_at result_of
returns-in-FznSeqPrecedeChainInt c = rw c.in-FznSeqPrecedeChainInt.is (ap Truth c.seq_precede_chain.ensures, tt)

pub returns-in_ok-sorted-in-FznSort : goal.returns-in_ok-sorted-in-FznSort
unfolding row_outcome row_at result_of
returns-in_ok-sorted-in-FznSort c = rw c.in-FznSort.is (ap Truth c.in_ok-sorted-in-FznSort.ensures, tt)

pub returns-in-FznMemberInt : goal.returns-in-FznMemberInt
unfolding row_outcome row_at result_of
returns-in-FznMemberInt c = rw c.in-FznMemberInt.is (ap Truth c.member_int.ensures, tt)

pub returns-in-FznMemberBool : goal.returns-in-FznMemberBool
unfolding row_outcome row_at result_of
returns-in-FznMemberBool c = rw c.in-FznMemberBool.is (ap Truth c.member_bool.ensures, tt)

pub returns-in-GecodeMaximumArgIntOffset : goal.returns-in-GecodeMaximumArgIntOffset
unfolding result_of row_at
returns-in-GecodeMaximumArgIntOffset c = rw c.in-GecodeMaximumArgIntOffset.is ((refl, refl, refl), c.argument_of_maximum.ensures)

pub returns-in-GecodeMinimumArgIntOffset : goal.returns-in-GecodeMinimumArgIntOffset
unfolding result_of row_at
returns-in-GecodeMinimumArgIntOffset c = rw c.in-GecodeMinimumArgIntOffset.is ((refl, refl, refl), c.argument_of_minimum.ensures)

pub returns-in-GecodeMaximumArgBoolOffset : goal.returns-in-GecodeMaximumArgBoolOffset
unfolding result_of row_at
returns-in-GecodeMaximumArgBoolOffset c = rw c.in-GecodeMaximumArgBoolOffset.is ((refl, refl, refl), c.argument_of_greatest_truth.ensures)

pub returns-in-FznKnapsack : goal.returns-in-FznKnapsack
unfolding row_outcome row_at result_of
returns-in-FznKnapsack c = rw c.in-FznKnapsack.is (c.knapsack.ensures ∙ two_sums _ _ _, none_told _ _ tt)

pub returns-in-FznSlidingSum : goal.returns-in-FznSlidingSum
unfolding row_outcome row_at result_of
returns-in-FznSlidingSum c = rw c.in-FznSlidingSum.is (ap Truth c.sliding_sum.ensures, tt)

pub returns-in-GecodeAmongSeqInt : goal.returns-in-GecodeAmongSeqInt
unfolding row_outcome row_at result_of
returns-in-GecodeAmongSeqInt c = rw c.in-GecodeAmongSeqInt.is (ap Truth c.among_seq.ensures, tt)

pub returns-in_ok-set_weights-in-GecodeSetWeights : goal.returns-in_ok-set_weights-in-GecodeSetWeights
unfolding result_of row_at
returns-in_ok-set_weights-in-GecodeSetWeights c = rw c.in-GecodeSetWeights.is ((refl, refl, refl), c.in_ok-set_weights-in-GecodeSetWeights.ensures)

pub returns-in-GecodeLinkSetToBooleans : goal.returns-in-GecodeLinkSetToBooleans
unfolding row_outcome row_at result_of
returns-in-GecodeLinkSetToBooleans c = rw c.in-GecodeLinkSetToBooleans.is (ap Truth c.link_set_to_booleans.ensures, tt)

pub returns-in-GecodeIntSetChannel : goal.returns-in-GecodeIntSetChannel
unfolding row_outcome row_at result_of
returns-in-GecodeIntSetChannel c = rw c.in-GecodeIntSetChannel.is (ap Truth c.int_set_channel.ensures, tt)

pub returns-in-GecodeInverseSet : goal.returns-in-GecodeInverseSet
unfolding row_outcome row_at result_of
returns-in-GecodeInverseSet c = rw c.in-GecodeInverseSet.is (ap Truth c.inverse_set.ensures, tt)

pub returns-in-GecodeRange : goal.returns-in-GecodeRange
returns-in-GecodeRange c = rw c.in-GecodeRange.is (said_at (row_at GecodeRange) (assigned c.args.view.now) (arguments_of c.args.view.now) c.args.first c.range.result c.range.ensures)

pub returns-in-FznDisjoint : goal.returns-in-FznDisjoint
unfolding row_outcome row_at result_of
returns-in-FznDisjoint c = rw c.in-FznDisjoint.is (ap Truth c.disjoint.ensures, tt)

pub returns-in_ok-partition_set-in-FznPartitionSet : goal.returns-in_ok-partition_set-in-FznPartitionSet
unfolding row_outcome row_at result_of
returns-in_ok-partition_set-in-FznPartitionSet c = rw c.in-FznPartitionSet.is (ap Truth c.in_ok-partition_set-in-FznPartitionSet.ensures, tt)
