-- Goals may be emitted in two parts: some, then the others.
use Rattle.std.specs.Prelude.{◌≡◌, refl, List, [], ◌∷◌, ◌++◌, ℕ}
use Rattle.std.proofs.Common.{sym, ap, ◌∙◌, append_assoc}
use Rattle.definition.specs.Run.{Note, Run, done, stop, behind, ◌>>=◌}
use Rattle.emission.specs.Begin.{Emission}
use Rattle.emission.specs.Emit.{emit_goal, emit_goals}

behind-none : {A : Type 0} (r : Run A) → behind [] r ≡ r
unfolding behind
behind-none (done ns a) = refl
behind-none (stop ns r) = refl

behind_both : {A : Type 0} (ns ms : List Note) (r : Run A) → behind (ns ++ ms) r ≡ behind ns (behind ms r)
unfolding behind
behind_both ns ms (done ks a) = ap (λ xs. done xs a) (append_assoc ns ms ks)
behind_both ns ms (stop ks r) = ap (λ xs. stop xs r) (append_assoc ns ms ks)

behind_then : {A B : Type 0} (ns : List Note) (r : Run A) (g : A → Run B) → behind ns r >>= g ≡ behind ns (r >>= g)
unfolding behind ◌>>=◌
behind_then ns (done ms a) g = behind_both ns ms (g a)
behind_then ns (stop ms r) g = refl

-- a run is the same however its parts are bracketed
pub run_assoc : {A B C : Type 0} (m : Run A) (f : A → Run B) (g : B → Run C) → (m >>= f) >>= g ≡ m >>= (λ a. f a >>= g)
unfolding ◌>>=◌
run_assoc (done ns a) f g = behind_then ns (f a) g
run_assoc (stop ns r) f g = refl

run-same : {A B : Type 0} (m : Run A) (f g : A → Run B) → ((a : A) → f a ≡ g a) → m >>= f ≡ m >>= g
unfolding ◌>>=◌
run-same (done ns a) f g h = ap (behind ns) (h a)
run-same (stop ns r) f g h = refl

pub goals_in_parts : (is js : List ℕ) (w : Emission) → emit_goals (is ++ js) w ≡ emit_goals is w >>= (λ v. emit_goals js v)
unfolding emit_goals ◌>>=◌
goals_in_parts [] js w = sym (behind-none (emit_goals js w))
goals_in_parts (i ∷ is) js w =
    run-same (emit_goal i w) (λ v. emit_goals (is ++ js) v) (λ v. emit_goals is v >>= λ u. emit_goals js u) (λ v. goals_in_parts is js v)
    ∙ sym (run_assoc (emit_goal i w) (λ v. emit_goals is v) (λ u. emit_goals js u))
