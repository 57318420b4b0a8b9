-- A run that is done came there part by part; and what holds of each number of a list.
use Rattle.std.specs.Prelude.{◌≡◌, refl, Bool, true, false, List, [], ◌∷◌, ◌++◌, map, ℕ, ◌<◌}
use Rattle.std.proofs.Math.Option.{Option, none, some}
use Rattle.definition.specs.Test.{never}
use Rattle.definition.specs.Pack.{Pack}
use Rattle.definition.specs.Good.{Below}
use Rattle.definition.specs.Graph.{Graph}
use Rattle.definition.specs.Run.{Note, Run, done, stop, behind, ◌>>=◌, or_else, need}
use Rattle.definition.specs.declared.Refusal.{Refusal}
use Rattle.theory.specs.Unification.Solve.{sort_at, SortsAt}
use Rattle.theory.specs.Patterns.Fixed.{Each}

behind-done : {B : Type 0} (ns : List Note) (r : Run B) (ms : List Note) (b : B) → behind ns r ≡ done ms b → (ks : List Note) × (r ≡ done ks b)
unfolding behind
behind-done ns (done ks c) ms b e = (ks, cc)
behind-done ns (stop ks x) ms b e = never (cc)

-- what is done came to something, and went on from it
pub run_then : {A B Q : Type 0} (r : Run A) (f : A → Run B) (ns : List Note) (b : B) → (r >>= f) ≡ done ns b → ((ms : List Note) (a : A) (ks : List Note) → r ≡ done ms a → f a ≡ done ks b → Q) → Q
unfolding ◌>>=◌
run_then (done ms a) f ns b e go = let p = behind-done ms (f a) ns b e in go ms a p.0 refl p.1
run_then (stop ms x) f ns b e go = never (cc)

-- what is there
pub there_is : {A : Type 0} (o : Option A) (x : Refusal) (ns : List Note) (a : A) → or_else o x ≡ done ns a → o ≡ some a
unfolding or_else
there_is none x ns a e = never (cc)
there_is (some c) x ns a e = cc

-- a test that holds
pub test_holds : (t : Bool) (x : Refusal) (ns : List Note) (u : Unit {0}) → need t x ≡ done ns u → t ≡ true
unfolding need
test_holds true x ns u e = refl
test_holds false x ns u e = never (cc)

-- what holds of each number, or what follows from it
pub each_map : (Q R : ℕ → Type 0) → ((x : ℕ) → Q x → R x) → (xs : List ℕ) → Each Q xs → Each R xs
each_map Q R f [] h = tt
each_map Q R f (x ∷ xs) h = (f x h.0, each_map Q R f xs h.1)

-- of some and of others
pub each_append : (Q : ℕ → Type 0) (xs ys : List ℕ) → Each Q xs → Each Q ys → Each Q (xs ++ ys)
each_append Q [] ys h k = k
each_append Q (x ∷ xs) ys h k = (h.0, each_append Q xs ys h.1 k)

-- each is below n
pub each_below : (n : ℕ) (xs : List ℕ) → Each (λ x. x < n) xs → Below n xs
each_below n [] h = tt
each_below n (x ∷ xs) h = (h.0, each_below n xs h.1)

-- nodes have their own sorts
pub own_sorts : (P : Pack) (g : Graph) (xs : List ℕ) → SortsAt P g xs (map (sort_at P g) xs)
own_sorts P g [] = tt
own_sorts P g (x ∷ xs) = (refl, own_sorts P g xs)
