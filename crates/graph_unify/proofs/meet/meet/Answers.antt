-- `meet` meets its contract.
use mathlib.Core.Path.{sym, ◌∙◌}
use Rattle.graph.specs.Cells.{unchanged_same, laid_rows}
use Rattle.graph.specs.Joins.{head-variable, head-other}
use Rattle.theory.specs.Unification.Turn.{meet_left, meet_right, meet-variable, meet_differ, meet-join}
use Rattle.graph_unify.specs.Meets.{meets-same, meets-bound, meets-joined, apart_rows}
use Rattle.graph_unify.proofs.meet.meet.Goals as goal

pub returns-then-x-y : goal.returns-then-x-y
returns-then-x-y c = meets-same _ _ _ _ _ _ c.top_pair.result c.if-x-y.true c.top_pair.ensures.0 c.top_pair.ensures.1

pub returns-then-is_free : goal.returns-then-is_free
returns-then-is_free c = meets-bound _ _ _ _ _ _ _ _ _ c.top_pair-then-is_free.result (λ h S ps. meet_left h _ _ ps c.if-x-y.false (sym (c.is_free.ensures h S) ∙ c.if-is_free.true)) c.bind.ensures c.top_pair-then-is_free.ensures.0 c.top_pair-then-is_free.ensures.1

pub returns-then-is_free-2 : goal.returns-then-is_free-2
returns-then-is_free-2 c = meets-bound _ _ _ _ _ _ _ _ _ c.top_pair-then-is_free-2.result (λ h S ps. meet_right h _ _ ps c.if-x-y.false (sym (c.is_free.ensures h S) ∙ c.if-is_free.false) (sym (c.is_free-2.ensures h S) ∙ c.if-is_free-2.true)) c.bind-then-is_free-2.ensures c.top_pair-then-is_free-2.ensures.0 c.top_pair-then-is_free-2.ensures.1

pub returns-then-head : goal.returns-then-head
returns-then-head c = (λ h S. meet-variable h _ _ _ c.if-x-y.false (sym (c.is_free.ensures h S) ∙ c.if-is_free.false) (sym (c.is_free-2.ensures h S) ∙ c.if-is_free-2.false) (head-variable h _ c.head-head.result (c.head-head.ensures h S) c.if-head.true), unchanged_same _ _)

pub returns-then-head-2 : goal.returns-then-head-2
returns-then-head-2 c = (λ h S. meet_differ h _ _ _ c.if-x-y.false (sym (c.is_free.ensures h S) ∙ c.if-is_free.false) (sym (c.is_free-2.ensures h S) ∙ c.if-is_free-2.false) (head-other h _ c.head-head.result (c.head-head.ensures h S) c.if-head.false) (λ e. c.if-head-2.true (c.head.ensures h S ∙ e ∙ sym (c.head-head.ensures h S))), unchanged_same _ _)

pub join-requires : goal.join-requires
join-requires c =
    let p = c.requires in
    let R = c.push_pairs-left.ensures.0.rows in
    (laid_rows _ _ _ _ R p.0.1.laid, apart_rows _ _ _ _ _ _ R p.0.1.laid (record { left = p.1.0; right = p.2.0; free = p.1.1; bare = p.2.1; unlike = c.if-x-y.false }))

pub returns : goal.returns
returns c = meets-joined _ _ _ _ _ _ _ _ c.push_pairs-left.result
    (λ h S ps. meet-join h _ _ ps c.if-x-y.false (sym (c.is_free.ensures h S) ∙ c.if-is_free.false) (sym (c.is_free-2.ensures h S) ∙ c.if-is_free-2.false) (head-other h _ c.head-head.result (c.head-head.ensures h S) c.if-head.false) (sym (c.head.ensures h S) ∙ c.if-head-2.false ∙ c.head-head.ensures h S))
    c.push_pairs-left.ensures.0 c.push_pairs-left.ensures.1 c.join.ensures
