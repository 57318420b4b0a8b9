-- What every state of emission is like, and what a search keeps: lines and nodes only come behind those there, patterns stay well sorted,
-- and the maps tell the truth.
use Rattle.std.specs.Prelude.{◌≡◌, List, [], ◌∷◌, ℕ, ◌<◌, ◌≤◌, length, get_or}
use Rattle.std.proofs.Common.{sym, ap, ◌∙◌, arith}
use Rattle.std.proofs.Math.Option.{some}
use Rattle.definition.specs.Pack.{prop, var, app, Node, no_node}
use Rattle.definition.specs.Verdict.{Bound, value_of}
use Rattle.definition.specs.Store.{variable_node, term_of}
use Rattle.emission.specs.Line.{Line, var_line, def_line, hyp_line, step_line_of, induct_line, result_line, Tally, no_line, counting, tally_from, tally}
use Rattle.emission.proofs.Laws.Text.{tally-behind}
use Rattle.emission.specs.State.{Emitter, Setting}
use Rattle.emission.specs.Induct.{case_number}
use Rattle.emission.specs.Begin.{eigen_number}
use Rattle.theory.specs.Copies.Terms.{term_append}
use Rattle.theory.specs.Patterns.Interned.{Grows, with, grows_none, grows_then, grows_long, grows_at}
use Rattle.emit_theory.specs.Stores.{SortedStore}
use Rattle.emit_theory.specs.Spoken.{Named}
use Rattle.emit_theory.specs.Said.{judgment_term, definitions, stated, no_judgment, WordsBelow, definitions-grow, stated-grow, words_same, words_more}

-- a pattern's term stays when the store grows
pub term_grows : (s t : List Node) → Grows s t → (p : ℕ) → p < length s → term_of t p ≡ term_of s p
term_grows s t (with more e) p h = ap (λ x. term_of x p) e ∙ term_append s more p h

-- line n is a hyp, step or induct line whose judgment, read through the definitions, is p
pub record Told (ls : List Line) (s : List Node) (p n : ℕ) : Type 0 where
  pub there : n < length (stated ls)
  pub stored : p < length s
  pub words : WordsBelow (length (definitions ls)) (get_or (stated ls) n no_judgment).words
  pub says : judgment_term (definitions ls) (get_or (stated ls) n no_judgment) ≡ term_of s p

-- definition n, read through those before it, is p
pub record Defines (ls : List Line) (s : List Node) (p n : ℕ) : Type 0 where
  pub there : n < length (definitions ls)
  pub stored : p < length s
  pub says : get_or (definitions ls) n (var 0) ≡ term_of s p

-- p is case variable k, and has its line
pub record Names (ls : List Line) (s : List Node) (p k : ℕ) : Type 0 where
  pub there : k < (tally ls).variables
  pub stored : p < length s
  pub sort : ℕ
  pub node : get_or s p no_node ≡ variable_node (case_number k) sort
  pub proper : sort ≡ prop → ⊥

-- what a map has is so
abbrev pub Each : (ℕ → ℕ → Type 0) → List Bound → Type 0
Each Q bs = (p n : ℕ) → value_of p bs ≡ some n → Q p n

-- a sound state
pub record Sound (S : Setting) (e : Emitter) : Type 0 where
  -- patterns are well sorted, and L's is there
  pub sorted : SortedStore S.pack e.kept.store
  pub L_stored : S.eigen < length e.kept.store
  pub L_node : get_or e.kept.store S.eigen no_node ≡ variable_node eigen_number S.sort
  pub L_proper : S.sort ≡ prop → ⊥
  -- the four maps
  pub proved : Each (Told e.undone.lines e.kept.store) e.undone.proved
  pub derived : Each (Told e.undone.lines e.kept.store) e.undone.derived
  pub defs : Each (Defines e.undone.lines e.kept.store) e.undone.defs
  pub names : Each (Names e.undone.lines e.kept.store) e.undone.names

-- lines, nodes and names that were there are there
pub record Grew (a b : Emitter) : Type 0 where
  pub lines : Grows a.undone.lines b.undone.lines
  pub store : Grows a.kept.store b.kept.store
  pub names : Named a.undone.names b.undone.names

pub grew_none : (e : Emitter) → Grew e e
grew_none e = record { lines = grows_none e.undone.lines; store = grows_none e.kept.store; names = λ p k h. (k, h) }

pub grew_then : (a b c : Emitter) → Grew a b → Grew b c → Grew a c
grew_then a b c G H = record {
  lines = grows_then a.undone.lines b.undone.lines c.undone.lines G.lines H.lines;
  store = grows_then a.kept.store b.kept.store c.kept.store G.store H.store;
  names = λ p k h. let n = G.names p k h in H.names p n.0 n.1;
}

-- what was told stays told
pub told_grows : (ls ms : List Line) (s t : List Node) → Grows ls ms → Grows s t → (p n : ℕ) → Told ls s p n → Told ms t p n
unfolding judgment_term
told_grows ls ms s t G H p n T =
    let D = definitions-grow ls ms G in
    let J = stated-grow ls ms G in
    let d = grows_long (definitions ls) (definitions ms) D in
    let j = grows_long (stated ls) (stated ms) J in
    let k = grows_long s t H in
    let same = grows_at (stated ls) (stated ms) no_judgment n J T.there in
    record {
      there = omega (arith, T.there);
      stored = omega (arith, T.stored);
      words = rw same (words_more (length (definitions ls)) (length (definitions ms)) d (get_or (stated ls) n no_judgment).words T.words);
      says =
          rw same (ap (λ ts. app (get_or (stated ls) n no_judgment).predicate ts) (words_same (definitions ls) (definitions ms) D (get_or (stated ls) n no_judgment).words T.words))
          ∙ T.says ∙ sym (term_grows s t H p T.stored);
    }

pub defines_grow : (ls ms : List Line) (s t : List Node) → Grows ls ms → Grows s t → (p n : ℕ) → Defines ls s p n → Defines ms t p n
defines_grow ls ms s t G H p n T =
    let D = definitions-grow ls ms G in
    let d = grows_long (definitions ls) (definitions ms) D in
    let k = grows_long s t H in
    record { there = omega (arith, T.there); stored = omega (arith, T.stored); says = grows_at (definitions ls) (definitions ms) (var 0) n D T.there ∙ T.says ∙ sym (term_grows s t H p T.stored) }

-- more lines have no fewer case variables
variables_one : (t : Tally) (l : Line) → t.variables ≤ (counting t l).variables
unfolding counting
variables_one t (var_line sort) = omega arith
variables_one t (def_line head words) = omega arith
variables_one t (hyp_line j) = omega arith
variables_one t (step_line_of rule refs j) = omega arith
variables_one t (induct_line j cases) = omega arith
variables_one t (result_line goal step) = omega arith

variables_on : (t : Tally) (ls : List Line) → t.variables ≤ (tally_from t ls).variables
unfolding tally_from
variables_on t [] = omega arith
variables_on t (l ∷ ls) = let a = variables_one t l in let b = variables_on (counting t l) ls in omega arith

variables_more : (ls ms : List Line) → Grows ls ms → (tally ls).variables ≤ (tally ms).variables
unfolding tally
variables_more ls ms (with more e) = let k = ap (λ (t : Tally). t.variables) (ap tally e ∙ tally-behind no_line ls more) in let v = variables_on (tally_from no_line ls) more in omega arith

pub names_grow : (ls ms : List Line) (s t : List Node) → Grows ls ms → Grows s t → (p k : ℕ) → Names ls s p k → Names ms t p k
names_grow ls ms s t G H p k T =
    let v = variables_more ls ms G in
    let l = grows_long s t H in
    record { there = omega (arith, T.there); stored = omega (arith, T.stored); sort = T.sort; node = grows_at s t no_node p H T.stored ∙ T.node; proper = T.proper }
