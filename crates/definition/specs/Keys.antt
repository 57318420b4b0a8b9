-- Document 01, "Class rows and patterns": which steps are needed, and the class of each; no unification.
use Rattle.std.specs.Prelude.{Bool, true, false, List, [], ◌∷◌, ◌++◌, map, ℕ, zero, suc, eqb, length, get_or, set}
use Rattle.std.proofs.Math.Option.{Option, none, some}
use Rattle.definition.specs.Test.{◌and◌, any, same}
use Rattle.definition.specs.Pack.{Step, Result, Cut, Pack, node_of, step_of}
use Rattle.definition.specs.Store.{nothing}
use Rattle.definition.specs.Graph.{up_to}

-- the first step with a judgment, counted on from i
unfoldable pub first_with : ℕ → List Step → ℕ → ℕ
first_with j [] i = i
first_with j (s ∷ ss) i = elim (eqb s.judgment j) [ true ↦ i | false ↦ first_with j ss (suc i) ]

-- "A ref stands for the first step with its judgment"
unfoldable pub first_of : Pack → ℕ → ℕ
unfolding first_with step_of
first_of P s = first_with (step_of P s).judgment P.steps 0

-- the predicate of a step's own judgment
unfoldable pub predicate_of : Pack → ℕ → ℕ
unfolding node_of step_of
predicate_of P s = (node_of P (step_of P s).judgment).head

unfoldable pub is_a_cut : Pack → ℕ → Bool
unfolding any
is_a_cut P p = any (λ (c : Cut). eqb c.predicate p) P.cuts

-- what a needed step needs: "the refs of needed steps that aren't cut"
unfoldable pub needs : Pack → ℕ → List ℕ
unfolding is_a_cut predicate_of first_of step_of
needs P s = elim (is_a_cut P (predicate_of P s)) [ true ↦ [] | false ↦ map (first_of P) (step_of P s).refs ]

-- the steps below n that are wanted, or needed by a later one that is, ascending
unfoldable pub needed_below : ℕ → Pack → List ℕ → List ℕ
unfolding any needs
needed_below zero P wanted = []
needed_below (suc s) P wanted =
    elim (any (eqb s) wanted) [
      | true ↦ needed_below s P (needs P s ++ wanted) ++ (s ∷ [])
      | false ↦ needed_below s P wanted
    ]

-- "Needed: the results' steps, and onwards"
unfoldable pub needed : Pack → List ℕ
unfolding needed_below first_of
needed P = needed_below (length P.steps) P (map (λ (r : Result). first_of P r.step) P.results)

-- "A needed cut step's class is its predicate's"; "Otherwise the key is the rule and the refs' classes"
pub data Key : Type 0 where
  cut_key : ℕ → Key
  rule_key : ℕ → List ℕ → Key

unfoldable pub same_key_of : Key → Key → Bool
unfolding ◌and◌ same
same_key_of (cut_key p) (cut_key q) = eqb p q
same_key_of (cut_key p) (rule_key r cs) = false
same_key_of (rule_key r cs) (cut_key p) = false
same_key_of (rule_key r cs) (rule_key q ds) = eqb r q and same cs ds

-- a class by its key, its first step, and how many steps it has
pub record Keyed : Type 0 where
  pub key : Key
  pub first : ℕ
  pub count : ℕ

abbrev pub no_keyed : Keyed
no_keyed = record { key = cut_key 0; first = 0; count = 0 }

-- the class of a key, counted on from c
unfoldable pub class_in : Key → List Keyed → ℕ → Option ℕ
unfolding same_key_of
class_in k [] c = none
class_in k (x ∷ xs) c = elim (same_key_of x.key k) [ true ↦ some c | false ↦ class_in k xs (suc c) ]

-- each step's class so far, 2^32−1 where it is not needed, and the classes so far
pub record Keys : Type 0 where
  pub words : List ℕ
  pub classes : List Keyed

unfoldable pub key_of : Pack → List ℕ → ℕ → Key
unfolding is_a_cut predicate_of first_of step_of
key_of P words s =
    elim (is_a_cut P (predicate_of P s)) [
      | true ↦ cut_key (predicate_of P s)
      | false ↦ rule_key (step_of P s).rule (map (λ r. get_or words (first_of P r) nothing) (step_of P s).refs)
    ]

-- one step more of class c
abbrev pub one_more_of : Keyed → Keyed
one_more_of x = record { key = x.key; first = x.first; count = suc x.count }

-- a needed step joins the class of its key, or begins it
unfoldable pub key_step : Pack → ℕ → Keys → Keys
unfolding key_of class_in
key_step P s k =
    let key = key_of P k.words s in
    elim (class_in key k.classes 0) [
      | some c ↦ record { words = k.words ++ (c ∷ []); classes = set k.classes c (one_more_of (get_or k.classes c no_keyed)) }
      | none ↦ record { words = k.words ++ (length k.classes ∷ []); classes = k.classes ++ (record { key = key; first = s; count = 1 } ∷ []) }
    ]

-- the steps of these numbers, ascending from the first
unfoldable pub key_steps : Pack → List ℕ → List ℕ → Keys → Keys
unfolding any key_step
key_steps P wanted [] k = k
key_steps P wanted (s ∷ ss) k =
    elim (any (eqb s) wanted) [
      | true ↦ key_steps P wanted ss (key_step P s k)
      | false ↦ key_steps P wanted ss (record { words = k.words ++ (nothing ∷ []); classes = k.classes })
    ]

unfoldable pub keyed : Pack → Keys
unfolding key_steps needed up_to
keyed P = key_steps P (needed P) (up_to (length P.steps)) (record { words = []; classes = [] })
