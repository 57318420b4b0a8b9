-- A judgment of a pack searched for, by the definition of emission: no classes, no lines yet, L and the judgment the only patterns.
use Rattle.std.specs.Prelude.{Bool, true, false, List, [], ℕ, suc, ◌-◌, eqb, leb, ltb, length}
use Rattle.std.proofs.Math.Option.{Option, none, some}
use Rattle.definition.specs.Test.{◌and◌}
use Rattle.definition.specs.Pack.{prop, Pack, sort_of}
use Rattle.definition.specs.Tree.{tree_of}
use Rattle.definition.specs.Frame.{Read, fine, refuse}
use Rattle.definition.specs.Store.{Stored, variable_node, intern, pattern_words}
use Rattle.definition.specs.Analysis.{lift}
use Rattle.definition.specs.Answer.{Lent}
use Rattle.definition.specs.Run.{outcome}
use Rattle.emission.specs.Name.{name_with}
use Rattle.emission.specs.Render.{proof_text}
use Rattle.emission.specs.State.{Setting, Tried}
use Rattle.emission.specs.Begin.{fresh, eigen_number}
use Rattle.emission.specs.Prove.{prove}
use Rattle.emit_state.specs.Holding.{levels}
use Rattle.host_search.specs.Came.{Came, told, refused, refusal, Left, leaves, lent_to, opened}

-- a ground node with a predicate on top, and a depth that there is
unfoldable pub is_asked : Pack → ℕ → ℕ → Bool
unfolding ◌and◌ sort_of
is_asked P node depth = leb depth levels and ltb node (length P.nodes) and eqb (sort_of P node) prop

-- L, of sort 0, is the first pattern
abbrev pub eigen : Stored
eigen = intern [] (variable_node eigen_number 0)

-- and behind it come the judgment's
unfoldable pub judged : Pack → ℕ → Stored
unfolding intern lift tree_of
judged P node = lift (tree_of P node) eigen.store

-- what the search goes by
abbrev pub setting_of : Pack → ℕ → Setting
setting_of P name = record { pack = P; eigen = eigen.number; name = name_with name; sort = 0 }

-- a line's number and one
unfoldable pub line_in : Option ℕ → ℕ
line_in none = 0
line_in (some n) = suc n

-- what the search came to, and the text of its lines
unfoldable pub told_by : Pack → ℕ → Read (Tried ℕ) → Came
unfolding line_in proof_text name_with
told_by P name (refuse r) = refusal r
told_by P name (fine t) = told (line_in t.result) (proof_text P (name_with name) t.state.undone.lines)

-- judgment j of a store is searched for
unfoldable pub sought : Lent → Pack → ℕ → ℕ → Stored → Came
unfolding told_by outcome prove
sought l P depth name j = told_by P name (outcome l (prove (levels - depth) (setting_of P name) [] j.number (fresh j.store)))

-- if the patterns have room
unfoldable pub node_searched : Lent → Pack → ℕ → ℕ → ℕ → Came
unfolding judged sought pattern_words
node_searched l P node depth name =
    let j = judged P node in
    elim (leb (length (pattern_words j.store)) l.pattern) [ false ↦ refused 8 2 | true ↦ sought l P depth name j ]

-- if there is such a judgment
unfoldable pub pack_searched : Lent → Pack → ℕ → ℕ → ℕ → Came
unfolding is_asked node_searched
pack_searched l P node depth name = elim (is_asked P node depth) [ false ↦ refused 12 0 | true ↦ node_searched l P node depth name ]

-- what the call leaves
unfoldable pub proved_leaves : List ℕ → ℕ → ℕ → ℕ → ℕ → ℕ → ℕ → Left
unfolding leaves opened pack_searched
proved_leaves pack node depth name work patterns proof =
    leaves (opened (lent_to (length pack) work patterns proof) pack (λ l P. pack_searched l P node depth name)) work patterns proof
