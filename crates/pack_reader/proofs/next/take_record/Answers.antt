-- `take_record` meets its contract.
use native.Mathlib.Omega.{arith}
use Rattle.pack_reader.specs.Kinds.{a_sort, a_symbol, a_rule, a_node, a_step, a_goal, a_result, a_cut, an_abstract}
use Rattle.pack_reader.proofs.next.take_record.Goals as goal

pub returns-in-1 : goal.returns-in-1
returns-in-1 c = a_sort _ _ _ _ _ _ c.requires.3 c.take_sort.result _ c.in-1.is c.take_sort.ensures

pub returns-in-2 : goal.returns-in-2
returns-in-2 c = a_symbol _ _ _ _ _ _ c.requires.3 c.take_symbol.result _ c.in-2.is c.take_symbol.ensures

pub returns-in-3 : goal.returns-in-3
returns-in-3 c = a_rule _ _ _ _ _ _ c.requires.3 c.take_rule.result _ c.in-3.is c.take_rule.ensures

pub returns-in-4 : goal.returns-in-4
returns-in-4 c = a_node _ _ _ _ _ _ c.requires.3 c.take_node.result _ c.in-4.is c.take_node.ensures

pub returns-in-5 : goal.returns-in-5
returns-in-5 c = a_step _ _ _ _ _ _ c.requires.3 c.take_step.result _ c.in-5.is c.take_step.ensures

pub returns-in-6 : goal.returns-in-6
returns-in-6 c = a_goal _ _ _ _ _ _ c.requires.3 c.take_goal.result _ c.in-6.is c.take_goal.ensures

pub returns-in-7 : goal.returns-in-7
returns-in-7 c = a_result _ _ _ _ _ _ c.requires.3 c.take_result.result _ c.in-7.is c.take_result.ensures

pub returns-in-8 : goal.returns-in-8
returns-in-8 c = a_cut _ _ _ _ _ _ c.requires.3 c.take_cut.result _ c.in-8.is c.take_cut.ensures

pub returns-in_default : goal.returns-in_default
returns-in_default c = an_abstract _ _ _ _ _ _ c.requires.3 c.take_abstract.result _ (λ e. omega arith) (λ e. omega arith) (λ e. omega arith) (λ e. omega arith) (λ e. omega arith) (λ e. omega arith) (λ e. omega arith) (λ e. omega arith) c.take_abstract.ensures
