-- Terms built as patterns: the store goes further on, the patterns stand in it, and over every store grown from it the same terms are the
-- same patterns, with no node more.
use Rattle.std.specs.Prelude.{◌≡◌, refl, List, ◌∷◌, ℕ, ◌<◌, length}
use Rattle.std.proofs.Math.Path.{ap}
use Rattle.std.proofs.Common.{◌∙◌, arith}
use Rattle.std.proofs.Math.Option.{Option, none, some}
use Rattle.definition.specs.Pack.{Term, Terms, var, app, nil, cons, Node}
use Rattle.definition.specs.Good.{Below}
use Rattle.definition.specs.Verdict.{Bound}
use Rattle.definition.specs.Store.{Stored, intern}
use Rattle.emission.specs.Patterns.{Built, BuiltAll, build, build_all}
use Rattle.theory.specs.Patterns.Interned.{Grows, grows_then, grows_long, interned, below-args}
use Rattle.theory.specs.Walks.Again.{stored, headed, place-grown, place-interned, intern-placed}
use Rattle.emit_theory.specs.Again.Later.{Further, further_none, further_then}
use Rattle.emit_theory.specs.Again.IfSome.{IfSome}
use Rattle.emit_theory.specs.Again.Matching.{Within, within_more}

-- a pattern, or none, with its store
abbrev built : Option ℕ → List Node → Built
built o s = record { number = o; store = s }

-- patterns, or none, with their store
abbrev built_all : Option (List ℕ) → List Node → BuiltAll
built_all o s = record { numbers = o; store = s }

-- a term built over s to r
pub record Builds (t : Term) (env : List Bound) (s : List Node) (r : Built) : Type 0 where
  pub further : Further s r.store
  pub inside : IfSome (λ p. p < length r.store) r.number
  pub again : (y : List Node) → Grows r.store y → build t env y ≡ built r.number y

-- terms built over s to r
pub record BuildsAll (ts : Terms) (env : List Bound) (s : List Node) (r : BuiltAll) : Type 0 where
  pub further : Further s r.store
  pub inside : IfSome (λ ps. Below (length r.store) ps) r.numbers
  pub again : (y : List Node) → Grows r.store y → build_all ts env y ≡ built_all r.numbers y

-- a head over what its arguments were built to
unfoldable over_args : ℕ → BuiltAll → Built
unfolding intern
over_args h b =
    elim b.numbers [
      | none ↦ record { number = none; store = b.store }
      | some ps ↦ let made = intern b.store (headed h ps) in record { number = some made.number; store = made.store }
    ]

-- a pattern ahead of what the terms behind it were built to
unfoldable ahead : ℕ → BuiltAll → BuiltAll
ahead p b = elim b.numbers [ none ↦ record { numbers = none; store = b.store } | some ps ↦ record { numbers = some (p ∷ ps); store = b.store } ]

-- a term, and then others over the store that it leaves
unfoldable and_then : Built → (List Node → BuiltAll) → BuiltAll
unfolding ahead
and_then b rest = elim b.number [ none ↦ record { numbers = none; store = b.store } | some p ↦ ahead p (rest b.store) ]

-- a node interned once has its number in every store grown from that, and the store stays
pub intern_again : (s : List Node) (n : Node) (y : List Node) → Grows (intern s n).store y → intern y n ≡ stored (intern s n).number y
intern_again s n y g = intern-placed y n (intern s n).number (place-grown n (intern s n).store y (intern s n).number g (place-interned s n))

-- an application, once its arguments are built
builds_over : (h : ℕ) (ts : Terms) (env : List Bound) (s : List Node) (o : Option (List ℕ)) (t : List Node)
    → BuildsAll ts env s (built_all o t) → Builds (app h ts) env s (over_args h (built_all o t))
unfolding build over_args
builds_over h ts env s none t A = record { further = A.further; inside = tt; again = λ y g. ap (over_args h) (A.again y g) }
builds_over h ts env s (some ps) t A =
    let n : Node = headed h ps in
    let I = interned t n in
    let u = (intern t n).store in
    record {
      further = further_then s t u A.further (record { grows = I.grows; earlier = λ E. I.earlier E (below-args (length t) n A.inside) });
      inside = I.within;
      again = λ y g. ap (over_args h) (A.again y (grows_then t u y I.grows g)) ∙ ap (λ (m : Stored). built (some m.number) m.store) (intern_again t n y g);
    }

module _ (t : Term) (ts : Terms) (env : List Bound) (s u : List Node) where
  again_ahead : (p : ℕ) (o : Option (List ℕ)) (v : List Node) → Builds t env s (built (some p) u) → BuildsAll ts env u (built_all o v)
      → (y : List Node) → Grows v y → build_all (cons t ts) env y ≡ ahead p (built_all o y)
  unfolding build and_then
  again_ahead p o v F R y g = ap (λ b. and_then b (λ x. build_all ts env x)) (F.again y (grows_then u v y R.further.grows g)) ∙ ap (ahead p) (R.again y g)

  builds_ahead : (p : ℕ) (o : Option (List ℕ)) (v : List Node) → Builds t env s (built (some p) u) → BuildsAll ts env u (built_all o v)
      → BuildsAll (cons t ts) env s (ahead p (built_all o v))
  unfolding ahead
  builds_ahead p none v F R = record { further = further_then s u v F.further R.further; inside = tt; again = again_ahead p none v F R }
  builds_ahead p (some ps) v F R =
      let l = grows_long u v R.further.grows in
      record { further = further_then s u v F.further R.further; inside = (omega (arith, F.inside), R.inside); again = again_ahead p (some ps) v F R }

  -- a term ahead of others, once it is built
  builds_then : (o : Option ℕ) → Builds t env s (built o u) → BuildsAll ts env u (build_all ts env u)
      → BuildsAll (cons t ts) env s (and_then (built o u) (λ x. build_all ts env x))
  unfolding build and_then
  builds_then none F R = record { further = F.further; inside = tt; again = λ y g. ap (λ b. and_then b (λ x. build_all ts env x)) (F.again y g) }
  builds_then (some p) F R = builds_ahead p (build_all ts env u).numbers (build_all ts env u).store F R

mutual
  unfolding build over_args and_then

  -- a term, by values that are patterns of the store
  pub builds : (t : Term) (env : List Bound) (s : List Node) → Within (length s) env → Builds t env s (build t env s)
  builds (var k) env s w = record { further = further_none s; inside = w k; again = λ y g. refl }
  builds (app h ts) env s w = let args = build_all ts env s in builds_over h ts env s args.numbers args.store (builds_all ts env s w)

  -- terms likewise
  pub builds_all : (ts : Terms) (env : List Bound) (s : List Node) → Within (length s) env → BuildsAll ts env s (build_all ts env s)
  builds_all nil env s w = record { further = further_none s; inside = tt; again = λ y g. refl }
  builds_all (cons t ts) env s w =
      let first = build t env s in
      let u = first.store in
      let F = builds t env s w in
      builds_then t ts env s u first.number F (builds_all ts env u (within_more (length s) (length u) env (grows_long s u F.further.grows) w))
