-- One node's text.
use Rattle.std.specs.Prelude.{◌≡◌, refl, Bool, not, ℕ, suc, ◌<◌, eqb, length, get_or}
use Rattle.std.proofs.Common.{sym, ap, ◌∙◌, arith}
use Rattle.std.proofs.Math.Bool.{true, false}
use mathlib.Core.List.{List, [], ◌∷◌, ◌++◌}
use borrow.Author.Tests.{eq-eqb, ne_eqb, eqb-true, eqb-false}
use Rattle.definition.specs.Test.{is, see, never, ◌and◌}
use Rattle.definition.specs.Pack.{prop, Node, Pack, no_node, symbol_of}
use Rattle.definition.specs.Store.{variable_head, is_variable}
use Rattle.definition.specs.Shown.{variable_name}
use Rattle.definition.specs.Graph.{Pair}
use Rattle.theory.specs.Copies.Terms.{Earlier}
use Rattle.base.specs.Pairs.{pair}
use Rattle.pack_tables.specs.Catalog.{records_of}
use Rattle.pack_read.specs.Reads.{Reads}
use Rattle.pack_read.specs.Held.{Proper}
use Rattle.text_write.specs.Written.{Adds}
use Rattle.text_write.specs.Source.{nodes_of, node_in, many_in, Sourced, OfSource, many-nodes, source_earlier, source_number}
use Rattle.text_write.specs.Left.{arguments_of, left_of, shown_then, shown_variable, shown_bare, shown_open, shown_over}
use Rattle.text_write.specs.declared.source.Source.{Source}
use Rattle.text_write.specs.declared.node.Shown.{Shown}
use Rattle.text_write.specs.declared.node.Shown.TheVariants.{Whole, Open}

-- node x can be read
abbrev pub Nodes : (bytes work words : List ℕ) (s : Source) (x : ℕ) → Type 0
Nodes bytes work words s x = Sourced bytes work words s × (x < many_in work words s)

-- it is an application of h
pub record Applied (bytes work words : List ℕ) (s : Source) (x h : ℕ) : Type 0 where
  pub nodes : Nodes bytes work words s x
  pub head : OfSource bytes work s (λ P. h ≡ (node_in P words s x).head)
  pub applied : h ≡ variable_head → ⊥

-- "a constant never" has brackets
abbrev pub IsBare : Pack → List Node → ℕ → ℕ → Bool → Type 0
IsBare P ns x h r = r ≡ (eqb (length (arguments_of ns x)) 0 and not (eqb (symbol_of P h).output prop))

-- its text is written, or written up to its first argument: then it has a frame
abbrev pub WritesNode : Pack → List Node → (text text' : List ℕ) (at x : ℕ) → Shown → Type 0
WritesNode P ns text text' at x (Whole r) = (w : List ℕ) × Adds text text' at w r × ((b : ℕ) (fs : List Pair) → shown_then P ns (suc b) x fs ≡ w ++ left_of P ns b fs)
WritesNode P ns text text' at x (Open r) = (w : List ℕ) × Adds text text' at w r × ((b : ℕ) (fs : List Pair) → shown_then P ns (suc b) x fs ≡ w ++ left_of P ns b (pair x 0 ∷ fs)) × (is_variable (get_or ns x no_node) ≡ false)

-- ---- the two tests for a constant
pub bare-over : (P : Pack) (ns : List Node) (x h n : ℕ) → n ≡ length (arguments_of ns x) → (n ≡ 0 → ⊥) → IsBare P ns x h false
unfolding ◌and◌
bare-over P ns x h n e d = rw (ne_eqb (length (arguments_of ns x)) 0 (λ q. d (e ∙ q)), ◌and◌)

pub bare-none : (P : Pack) (ns : List Node) (x h n : ℕ) → n ≡ length (arguments_of ns x) → n ≡ 0 → (p : Bool) → p ≡ eqb (symbol_of P h).output prop → IsBare P ns x h (not p)
unfolding ◌and◌
bare-none P ns x h n e z p q = rw (q, eq-eqb (length (arguments_of ns x)) 0 (sym e ∙ z), ◌and◌)

-- ---- the text of a node
module _ (bytes work words : List ℕ) (s : Source) (x : ℕ) (N : Nodes bytes work words s x) (P : Pack) (R : Reads bytes (records_of work s.catalog) P) (Q : Proper P) where
  earlier : Earlier (nodes_of P words s)
  earlier = source_earlier bytes work words s N.0 P R Q

  there : x < length (nodes_of P words s)
  there = omega (arith, N.1, many-nodes bytes work words s P R)

  -- a variable
  module _ (h : ℕ) (H : h ≡ (node_in P words s x).head) (v : h ≡ variable_head) where
    is_variable_law : is_variable (node_in P words s x) ≡ true
    unfolding is_variable
    is_variable_law = eq-eqb (node_in P words s x).head variable_head (sym H ∙ v)

    pub variable_number : 0 < length (node_in P words s x).args
    variable_number = source_number bytes work words s N.0 P R Q x N.1 is_variable_law

    pub variable-written : (k : ℕ) → k ≡ get_or (node_in P words s x).args 0 0 → (text text' : List ℕ) (at r : ℕ) → Adds text text' at (variable_name k) r → WritesNode P (nodes_of P words s) text text' at x (Whole r)
    variable-written k e text text' at r A =
        (variable_name k, A, λ b fs. shown_variable P (nodes_of P words s) earlier x there is_variable_law b fs ∙ ap (λ (j : ℕ). variable_name j ++ left_of P (nodes_of P words s) b fs) (sym e))

  -- an application
  module _ (h : ℕ) (H : h ≡ (node_in P words s x).head) (a : h ≡ variable_head → ⊥) where
    is_applied : is_variable (node_in P words s x) ≡ false
    unfolding is_variable
    is_applied = ne_eqb (node_in P words s x).head variable_head (λ e. a (H ∙ e))

    none_bare : (args : List ℕ) → length args ≡ 0 → args ≡ []
    none_bare [] e = refl
    none_bare (y ∷ args) e = absurd (omega arith)

    pub bare-written : IsBare P (nodes_of P words s) x h true → (text text' : List ℕ) (at r : ℕ) → Adds text text' at (symbol_of P h).name r → WritesNode P (nodes_of P words s) text text' at x (Whole r)
    unfolding ◌and◌
    bare-written e text text' at r A = ((symbol_of P h).name, A, rest)
      where
        rest : (b : ℕ) (fs : List Pair) → shown_then P (nodes_of P words s) (suc b) x fs ≡ (symbol_of P h).name ++ left_of P (nodes_of P words s) b fs
        rest b fs = elim (see (eqb (length (arguments_of (nodes_of P words s) x)) 0)) [
          | is false p ↦ never (let z : true ≡ false = e ∙ rw (p, ◌and◌) in cc)
          | is true p ↦ elim (see (eqb (symbol_of P h).output prop)) [
            | is true q ↦ never (let z : true ≡ false = e ∙ rw (p, q, ◌and◌) in cc)
            | is false q ↦ shown_bare P (nodes_of P words s) earlier x there is_applied h H (none_bare (arguments_of (nodes_of P words s) x) (eqb-true (length (arguments_of (nodes_of P words s) x)) 0 p)) q b fs
          ]
        ]

    pub open_written : IsBare P (nodes_of P words s) x h false → (text text' : List ℕ) (at r : ℕ) → Adds text text' at (40 ∷ (symbol_of P h).name) r → WritesNode P (nodes_of P words s) text text' at x (Open r)
    unfolding ◌and◌
    open_written e text text' at r A = (40 ∷ (symbol_of P h).name, A, rest, is_applied)
      where
        rest : (b : ℕ) (fs : List Pair) → shown_then P (nodes_of P words s) (suc b) x fs ≡ (40 ∷ (symbol_of P h).name) ++ left_of P (nodes_of P words s) b (pair x 0 ∷ fs)
        rest b fs = elim (see (eqb (length (arguments_of (nodes_of P words s) x)) 0)) [
          | is false p ↦ shown_over P (nodes_of P words s) earlier x there is_applied h H (omega (arith, eqb-false (length (arguments_of (nodes_of P words s) x)) 0 p)) b fs
          | is true p ↦ elim (see (eqb (symbol_of P h).output prop)) [
            | is true q ↦ shown_open P (nodes_of P words s) earlier x there is_applied h H (eqb-true (length (arguments_of (nodes_of P words s) x)) 0 p) q b fs
            | is false q ↦ never (let z : false ≡ true = e ∙ rw (p, q, ◌and◌) in cc)
          ]
        ]
