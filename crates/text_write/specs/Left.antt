-- What is left to be written of a shown term, by the frames of a walk over it.
use Rattle.std.specs.Prelude.{◌≡◌, refl, true, false, eqb, get_or, drop}
use Rattle.std.proofs.Math.Path.{sym, ap, ap₂}
use Rattle.std.proofs.Common.{◌∙◌, arith, drop_of_length-le, length-append, drop-cons}
use mathlib.Core.List.{List, [], ◌∷◌, ◌++◌, append_assoc, append-nil}
use Prim.Native.Nat.{ℕ, suc, ◌≤◌, ◌<◌}
use Rattle.std.proofs.Math.ListN.{length}
use Rattle.definition.specs.Pack.{prop, Term, Terms, var, app, nil, Node, Pack, no_node, symbol_of}
use Rattle.definition.specs.Store.{is_variable, term_of}
use Rattle.definition.specs.Shown.{Text, ellipsis, headed, show, show_all, variable_name}
use Rattle.definition.specs.Graph.{Pair}
use Rattle.theory.specs.Copies.Terms.{Earlier, terms_at, term_variable, term_applied}
use Rattle.base.specs.Pairs.{pair}

-- the arguments of a node
abbrev pub arguments_of : List Node → ℕ → List ℕ
arguments_of ns x = (get_or ns x no_node).args

-- a frame is a node whose bracket is open, and how many of its arguments are shown: the others follow, then the bracket's end, then what the
-- frames below it leave
unfoldable pub left_of : Pack → List Node → ℕ → List Pair → List ℕ
unfolding show_all terms_at variable_name
left_of P ns b [] = []
left_of P ns b (f ∷ fs) = let args = show_all P variable_name (terms_at ns (drop f.right (arguments_of ns f.left))) b in args.bytes ++ (41 ∷ left_of P ns args.left fs)

-- a node's text, then what the frames leave
unfoldable pub shown_then : Pack → List Node → ℕ → ℕ → List Pair → List ℕ
unfolding show term_of variable_name left_of
shown_then P ns b x fs = let t = show P variable_name (term_of ns x) b in t.bytes ++ left_of P ns t.left fs

-- without frames it is the node's text
pub shown_alone : (P : Pack) (ns : List Node) (b x : ℕ) → shown_then P ns b x [] ≡ (show P variable_name (term_of ns x) b).bytes
unfolding shown_then left_of
shown_alone P ns b x = append-nil (show P variable_name (term_of ns x) b).bytes

-- a frame leaves a byte at least
pub left_some : (P : Pack) (ns : List Node) (b : ℕ) (fs : List Pair) → 0 < length fs → 0 < length (left_of P ns b fs)
unfolding left_of
left_some P ns b [] h = absurd (omega arith)
left_some P ns b (f ∷ fs) h = let args = show_all P variable_name (terms_at ns (drop f.right (arguments_of ns f.left))) b in omega (arith, length-append args.bytes (41 ∷ left_of P ns args.left fs))

module _ (P : Pack) (ns : List Node) (b : ℕ) (x k : ℕ) (fs : List Pair) where
  -- all arguments are shown
  pub left_close : length (arguments_of ns x) ≤ k → left_of P ns b (pair x k ∷ fs) ≡ 41 ∷ left_of P ns b fs
  unfolding left_of show_all terms_at
  left_close h = rw (drop_of_length-le (arguments_of ns x) h, left_of)

  -- one more is to be shown
  pub left-next : k < length (arguments_of ns x) → left_of P ns b (pair x k ∷ fs) ≡ 32 ∷ shown_then P ns b (get_or (arguments_of ns x) k 0) (pair x (suc k) ∷ fs)
  unfolding left_of shown_then show_all terms_at
  left-next h =
      let args = arguments_of ns x in
      let first = show P variable_name (term_of ns (get_or args k 0)) b in
      let rest = show_all P variable_name (terms_at ns (drop (suc k) args)) first.left in
      rw (drop-cons args k 0 h, left_of) (ap (λ (xs : List ℕ). 32 ∷ xs) (append_assoc first.bytes rest.bytes (41 ∷ left_of P ns rest.left fs)))

-- ---- a node that is come to
-- "spent, it shows `…`"
show_spent : (P : Pack) (t : Term) → show P variable_name t 0 ≡ ellipsis
unfolding show
show_spent P (var k) = refl
show_spent P (app h ts) = refl

pub shown_spent : (P : Pack) (ns : List Node) (x : ℕ) (fs : List Pair) → shown_then P ns 0 x fs ≡ (226 ∷ 128 ∷ 166 ∷ []) ++ left_of P ns 0 fs
unfolding shown_then
shown_spent P ns x fs = ap (λ (t : Text). t.bytes ++ left_of P ns t.left fs) (show_spent P (term_of ns x))

module _ (P : Pack) (ns : List Node) (E : Earlier ns) (x : ℕ) (there : x < length ns) where
  -- a variable's name
  pub shown_variable : is_variable (get_or ns x no_node) ≡ true → (b : ℕ) (fs : List Pair) → shown_then P ns (suc b) x fs ≡ variable_name (get_or (arguments_of ns x) 0 0) ++ left_of P ns b fs
  unfolding shown_then show
  shown_variable v b fs = ap (λ (t : Term). (show P variable_name t (suc b)).bytes ++ left_of P ns (show P variable_name t (suc b)).left fs) (term_variable ns E x there v)

  module _ (v : is_variable (get_or ns x no_node) ≡ false) (h : ℕ) (H : h ≡ (get_or ns x no_node).head) where
    -- its text by its arguments
    applied : (b : ℕ) (fs : List Pair) (ts : Terms) → terms_at ns (arguments_of ns x) ≡ ts
        → shown_then P ns (suc b) x fs ≡ headed P h ts (show_all P variable_name ts b).bytes ++ left_of P ns (show_all P variable_name ts b).left fs
    unfolding shown_then show
    applied b fs ts e =
        let same : term_of ns x ≡ app h ts = term_applied ns E x there v ∙ ap₂ app (sym H) e in
        ap (λ (t : Term). (show P variable_name t (suc b)).bytes ++ left_of P ns (show P variable_name t (suc b)).left fs) same

    -- a constant is bare
    pub shown_bare : arguments_of ns x ≡ [] → eqb (symbol_of P h).output prop ≡ false → (b : ℕ) (fs : List Pair) → shown_then P ns (suc b) x fs ≡ (symbol_of P h).name ++ left_of P ns b fs
    unfolding headed show_all terms_at
    shown_bare e o b fs = applied b fs nil (ap (terms_at ns) e) ∙ rw (o, headed)

    -- anything else has brackets
    open_judgment : (args : List ℕ) → arguments_of ns x ≡ args → length args ≡ 0 → eqb (symbol_of P h).output prop ≡ true → (b : ℕ) (fs : List Pair)
        → shown_then P ns (suc b) x fs ≡ (40 ∷ (symbol_of P h).name) ++ left_of P ns b (pair x 0 ∷ fs)
    unfolding headed show_all terms_at
    open_judgment [] e z o b fs =
        applied b fs nil (ap (terms_at ns) e) ∙ rw (o, headed) (append_assoc (40 ∷ (symbol_of P h).name) (41 ∷ []) (left_of P ns b fs))
        ∙ ap (λ (xs : List ℕ). (40 ∷ (symbol_of P h).name) ++ xs) (sym (left_close P ns b x 0 fs (omega (arith, ap length e))))
    open_judgment (a ∷ args) e z o b fs = absurd (omega arith)

    open_applied : (args : List ℕ) → arguments_of ns x ≡ args → 0 < length args → (b : ℕ) (fs : List Pair)
        → shown_then P ns (suc b) x fs ≡ (40 ∷ (symbol_of P h).name) ++ left_of P ns b (pair x 0 ∷ fs)
    unfolding headed show_all terms_at left_of
    open_applied [] e z b fs = absurd (omega arith)
    open_applied (a ∷ args) e z b fs =
        let ts = terms_at ns (a ∷ args) in
        let shown = show_all P variable_name ts b in
        let front : List ℕ = 40 ∷ (symbol_of P h).name in
        let back : left_of P ns b (pair x 0 ∷ fs) ≡ shown.bytes ++ (41 ∷ left_of P ns shown.left fs) =
        ap (λ (xs : List ℕ). (show_all P variable_name (terms_at ns xs) b).bytes ++ (41 ∷ left_of P ns (show_all P variable_name (terms_at ns xs) b).left fs)) e in
        applied b fs ts (ap (terms_at ns) e)
        ∙ append_assoc front (shown.bytes ++ (41 ∷ [])) (left_of P ns shown.left fs)
        ∙ ap (λ (xs : List ℕ). front ++ xs) (append_assoc shown.bytes (41 ∷ []) (left_of P ns shown.left fs) ∙ sym back)

    pub shown_open : length (arguments_of ns x) ≡ 0 → eqb (symbol_of P h).output prop ≡ true → (b : ℕ) (fs : List Pair)
        → shown_then P ns (suc b) x fs ≡ (40 ∷ (symbol_of P h).name) ++ left_of P ns b (pair x 0 ∷ fs)
    shown_open z o b fs = open_judgment (arguments_of ns x) refl z o b fs

    pub shown_over : 0 < length (arguments_of ns x) → (b : ℕ) (fs : List Pair) → shown_then P ns (suc b) x fs ≡ (40 ∷ (symbol_of P h).name) ++ left_of P ns b (pair x 0 ∷ fs)
    shown_over m b fs = open_applied (arguments_of ns x) refl m b fs
