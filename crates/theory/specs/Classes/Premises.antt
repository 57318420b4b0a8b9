-- All premises of a rule: with one solution that matches them class building meets no clash, and what is left is just the solutions that match.
use Rattle.std.specs.Prelude.{◌≡◌, refl, ℕ, ◌<◌, ◌≤◌, length, get_or}
use Rattle.std.proofs.Math.Path.{sym, ap₂}
use Rattle.std.proofs.Common.{◌∙◌, arith}
use mathlib.Core.List.{List, [], ◌∷◌, ◌++◌, map, append_assoc, append-nil}
use Rattle.definition.specs.Pack.{prop, Terms, nil, cons, Pack, step_of}
use Rattle.definition.specs.Tree.{Tree, tree_then, turn, turns}
use Rattle.definition.specs.Good.{Below, Judgments, Few}
use Rattle.definition.specs.Graph.{Graph, cells, up_to}
use Rattle.definition.specs.Analysis.{copy, instantiate}
use Rattle.definition.specs.Run.{Note, Run, done, behind, ◌>>=◌, or_else}
use Rattle.definition.specs.Classes.{Class, no_class, Built, Premises, in_order, take_premises}
use Rattle.theory.specs.Unification.Solve.{trees_at, Solves, sort_at, Formed}
use Rattle.theory.specs.Copies.Push.{Extends}
use Rattle.theory.specs.Copies.Instantiate.{Environment, values_of}
use Rattle.theory.specs.Classes.Built.{BuiltGood}
use Rattle.theory.specs.Classes.Premise.{turn-same, env-same, Matches, one_premise}

-- the class of a step, and its conclusion
abbrev pub class_of : List ℕ → Built → ℕ → Class
class_of words b r = get_or b.classes (get_or words r 0) no_class

-- refs whose classes are made
abbrev pub Made : List ℕ → Built → List ℕ → Type 0
Made words b [] = Unit {0}
Made words b (r ∷ refs) = (get_or words r 0 < length b.classes) × Made words b refs

-- each premise with an instance of its ref's conclusion
abbrev pub MatchesAll : List ℕ → Built → (ℕ → Tree) → Terms → List ℕ → Type 0
MatchesAll words b ν nil refs = Unit {0}
MatchesAll words b ν (cons t ts) [] = ⊥
MatchesAll words b ν (cons t ts) (r ∷ refs) = Matches b.store (class_of words b r).conclusion ν t × MatchesAll words b ν ts refs

-- as many refs as premises
abbrev pub count_is : Terms → List ℕ → Type 0
count_is nil [] = Unit {0}
count_is nil (r ∷ refs) = ⊥
count_is (cons t ts) [] = ⊥
count_is (cons t ts) (r ∷ refs) = count_is ts refs

-- assignments that agree on the rule's variables match alike
pub matches_same : (P : Pack) (vars words : List ℕ) (b : Built) (ν μ : ℕ → Tree) → ((k : ℕ) → k < length vars → ν k ≡ μ k) → (ts : Terms) (refs : List ℕ) → Judgments P vars ts
    → MatchesAll words b ν ts refs → MatchesAll words b μ ts refs
matches_same P vars words b ν μ e nil refs H m = tt
matches_same P vars words b ν μ e (cons t ts) [] H m = m
matches_same P vars words b ν μ e (cons t ts) (r ∷ refs) H m =
    ((m.0.0, sym (turn-same P vars ν μ e t prop H.0) ∙ m.0.1), matches_same P vars words b ν μ e ts refs H.1 m.1)

-- nodes that are judgments by their sort
abbrev pub AllProp : Pack → Graph → List ℕ → Type 0
AllProp P g [] = Unit {0}
AllProp P g (x ∷ xs) = (sort_at P g x ≡ prop) × AllProp P g xs

-- what taking premises comes to
pub record TakenAll (P : Pack) (vars env words : List ℕ) (b : Built) (ts : Terms) (refs : List ℕ) (ps : Premises) (o : Run Premises) : Type 0 where
  pub noted : List Note
  pub result : Premises
  pub is : o ≡ done noted result
  pub formed : Formed P result.graph
  pub longer : length ps.graph ≤ length result.graph
  pub environment : Environment P vars env result.graph
  pub before : (θ : ℕ → Tree) → Solves θ result.graph → Solves θ ps.graph
  pub matches : (θ : ℕ → Tree) → Solves θ result.graph → MatchesAll words b (values_of env θ) ts refs
  pub extends : (θ : ℕ → Tree) → Solves θ ps.graph → MatchesAll words b (values_of env θ) ts refs → Extends θ ps.graph result.graph
  pub more : List ℕ
  pub instances : result.instances ≡ ps.instances ++ more
  pub inside : Below (length result.graph) more
  pub props : AllProp P result.graph more
  pub sorts : (x : ℕ) → x < length ps.graph → sort_at P result.graph x ≡ sort_at P ps.graph x
  pub are : (θ : ℕ → Tree) → Solves θ result.graph → trees_at θ more ≡ turns (values_of env θ) ts
  pub judged : result.judgments ≡ ps.judgments ++ map (λ r. (step_of P r).judgment) refs

module _ (P : Pack) (F : Few P) (s : ℕ) (vars env words : List ℕ) (b : Built) (B : BuiltGood P words b) where
  pub premises-taken : (ts : Terms) (refs : List ℕ) (ps : Premises) → Judgments P vars ts → Made words b refs → count_is ts refs → Formed P ps.graph → Environment P vars env ps.graph
      → (θ : ℕ → Tree) → Solves θ ps.graph → MatchesAll words b (values_of env θ) ts refs
      → TakenAll P vars env words b ts refs ps (take_premises P s words b env ts refs ps)
  unfolding take_premises trees_at turn or_else ◌>>=◌ behind
  premises-taken nil [] ps H M c G V' θ S m = record {
    noted = [];
    result = ps;
    is = refl;
    formed = G;
    longer = omega arith;
    environment = V';
    before = λ ϕ R. R;
    matches = λ ϕ R. tt;
    extends = λ ϕ R n. record { solution = ϕ; agrees = λ x h. refl; solves = R };
    more = [];
    instances = sym (append-nil ps.instances);
    inside = tt;
    props = tt;
    sorts = λ x h. refl;
    are = λ ϕ R. refl;
    judged = sym (append-nil ps.judgments);
  }
  premises-taken nil (r ∷ refs) ps H M c G V' θ S m = absurd c
  premises-taken (cons t ts) [] ps H M c G V' θ S m = absurd c
  premises-taken (cons t ts) (r ∷ refs) ps H M c G V' θ S m =
      let class = class_of words b r in
      let X = B.classes (get_or words r 0) M.0 in
      let one = one_premise P F vars env b.store B.earlier B.once class.flex X.sorts class.conclusion X.sorted t H.0 ps.graph G V' θ S m.0 in
      let fresh = copy b.store class.flex ps.graph class.conclusion in
      let inst = instantiate t env fresh.graph in
      let first = one.extends θ S m.0 in
      let next : Premises = record { graph = one.graph; instances = ps.instances ++ (inst.at ∷ []); judgments = ps.judgments ++ ((step_of P r).judgment ∷ []); copies = ps.copies ++ in_order (up_to (length class.flex)) fresh.variables } in
      let same = env-same P vars env ps.graph V' θ first.solution first.agrees in
      let rest = premises-taken ts refs next H.1 M.1 c one.formed one.environment first.solution first.solves
      (matches_same P vars words b (values_of env θ) (values_of env first.solution) (λ k h. sym (same k h)) ts refs H.1 m.1) in
      record {
        noted = (record { buffer = 3; fill = cells inst.graph } ∷ []) ++ ([] ++ rest.noted);
        result = rest.result;
        is = rw (one.made, or_else, rest.is);
        formed = rest.formed;
        longer = omega (arith, one.longer, rest.longer);
        environment = rest.environment;
        before = λ ϕ R. one.before ϕ (rest.before ϕ R);
        matches = λ ϕ R. (one.matches ϕ (rest.before ϕ R), rest.matches ϕ R);
        extends = λ ϕ R n.
            let A = one.extends ϕ R n.0 in
            let agree = env-same P vars env ps.graph V' ϕ A.solution A.agrees in
            let D = rest.extends A.solution A.solves (matches_same P vars words b (values_of env ϕ) (values_of env A.solution) (λ k h. sym (agree k h)) ts refs H.1 n.1) in
            record { solution = D.solution; agrees = λ x h. D.agrees x (omega (arith, one.longer)) ∙ A.agrees x h; solves = D.solves };
        more = inst.at ∷ rest.more;
        instances = rest.instances ∙ append_assoc ps.instances (inst.at ∷ []) rest.more;
        inside = (omega (arith, one.inside, rest.longer), rest.inside);
        props = (rest.sorts inst.at one.inside ∙ one.sort, rest.props);
        sorts = λ x h. rest.sorts x (omega (arith, one.longer)) ∙ one.sorts x h;
        are = λ ϕ R. ap₂ tree_then (one.is ϕ (rest.before ϕ R)) (rest.are ϕ R);
        judged = rest.judged ∙ append_assoc ps.judgments ((step_of P r).judgment ∷ []) (map (λ q. (step_of P q).judgment) refs);
      }
