-- All premises: what is left gives the whole.
use Rattle.std.specs.Prelude.{Result, Ok, Err}
use Rattle.std.specs.Prelude.{◌≡◌, List, [], ◌∷◌, ◌++◌, map, ℕ, zero, suc, ◌+◌, ◌≤◌, ◌<◌, length, get_or, set}
use Rattle.std.proofs.Math.Path.{refl, sym, ap, subst}
use Rattle.std.proofs.Common.{◌∙◌, arith, length-set, take-suc-set}
use Rattle.std.proofs.Math.ListN.{take}
use Rattle.std.proofs.lemmas.List.{length-map}
use Rattle.std.proofs.Math.Seq.{take_all}
use Rattle.definition.specs.Pack.{Terms, nil, cons, Pack, rule_of, step_of}
use Rattle.definition.specs.Certificate.{count}
use Rattle.definition.specs.Frame.{fine, refuse}
use Rattle.definition.specs.Answer.{Lent}
use Rattle.definition.specs.Run.{outcome}
use Rattle.definition.specs.Graph.{Graph}
use Rattle.definition.specs.Classes.{Built, Premises, take_premises}
use Rattle.definition.specs.declared.Refusal.{Refusal}
use Rattle.base.specs.Outside.{Outside, outside_none, outside_then}
use Rattle.base.specs.declared.id.Node.{Node}
use Rattle.memo.specs.declared.memo.Memo.{Memo}
use Rattle.store.specs.declared.nodes.Store.{Store}
use Rattle.pack_tables.specs.declared.catalog.Catalog.{Catalog}
use Rattle.graph.specs.declared.graph.Graph.{Graph as Counts}
use Rattle.class_keys.specs.declared.classes.Keying.{Keying}
use Rattle.class_keys.specs.declared.classes.Counts.{Counts as KeyCounts}
use Rattle.class_premises.specs.declared.layout.Layout.{Layout}
use Rattle.class_premises.specs.declared.building.Building.{Building}
use Rattle.class_premises.specs.declared.premise.Reached.{Reached}
use Rattle.theory.specs.Making.Runs.{outcome-return-end}
use Rattle.class_premises.specs.declared.premises.Ruling.{Ruling}
use Rattle.class_premises.specs.Buffers.{Buffers}
use Rattle.class_premises.specs.Given.{refs_of, takes}
use Rattle.class_premises.specs.Next.{Here, Nexting, Nexts}

-- nothing is taken: a graph alone
abbrev pub start : Graph → Premises
start h = record { graph = h; instances = []; judgments = []; copies = [] }

-- all premises of the rule, from the first on
abbrev pub all_of : Pack → Ruling → Terms
all_of P u = (rule_of P u.rule).premises

abbrev pub Begun : List ℕ → List ℕ → List ℕ → List ℕ → List ℕ → Catalog → Keying → Layout → KeyCounts → Store → Memo → ℕ → Counts → List ℕ → Ruling → Pack → Built → Graph → Type 0
Begun bytes work class words cells c k l r st memo fill g env u P b h = Here bytes work class words cells c k l r st memo fill g env u 0 0 0 P b (all_of P u) (refs_of P u) (start h)

-- what is asked
pub record Starting (bytes work class words cells : List ℕ) (c : Catalog) (k : Keying) (l : Layout) (st : Store) (memo : Memo) (g : Counts) (env : List ℕ) (u : Ruling) (instances : List ℕ) : Type 0 where
  pub counts : KeyCounts
  pub fill : ℕ
  pub pack : Pack
  pub built : Built
  pub graph : Graph
  pub begun : Begun bytes work class words cells c k l counts st memo fill g env u pack built graph
  pub room : u.premises ≤ length instances

-- there are few premises
pub starting_few : (bytes work class words cells : List ℕ) (c : Catalog) (k : Keying) (l : Layout) (st : Store) (memo : Memo) (g : Counts) (env : List ℕ) (u : Ruling) (instances : List ℕ)
    → Starting bytes work class words cells c k l st memo g env u instances → u.premises ≤ 16
starting_few bytes work class words cells c k l st memo g env u instances T =
    let B = T.begun in
    let n = (B.standing.proper.good.steps u.step B.ruled.step).rule in
    omega (arith, B.ruled.premises, (B.standing.proper.good.rules u.rule (subst (λ (m : ℕ). m < length T.pack.rules) (sym B.ruled.rule) n)).arity)

-- the judgments of the refs
abbrev pub judged : Pack → List ℕ → List ℕ
judged P refs = map (λ f. (step_of P f).judgment) refs

-- all are taken
pub record Done (bytes work' class words cells cells' : List ℕ) (c : Catalog) (k : Keying) (l : Layout) (r : KeyCounts) (st : Store) (memo' : Memo) (fill : ℕ) (g' : Counts) (env : List ℕ) (u : Ruling) (instances' : List ℕ) (from copies : ℕ)
    (P : Pack) (b : Built) (h : Graph) : Type 0 where
  pub refs : List ℕ
  pub state : Premises
  pub here : Here bytes work' class words cells' c k l r st memo' fill g' env u u.premises from copies P b nil refs state
  pub instances : take u.premises instances' ≡ state.instances
  pub judgments : state.judgments ≡ judged P (refs_of P u)
  pub is : (L : Lent) → L.graph ≡ length cells → outcome L (takes P b u (all_of P u) (refs_of P u) (start h)) ≡ fine state

-- of whatever stands
abbrev pub Whatever : List ℕ → List ℕ → List ℕ → List ℕ → List ℕ → Catalog → Keying → Layout → Store → Memo → Counts → List ℕ → Ruling → (KeyCounts → ℕ → Pack → Built → Graph → Type 0) → Type 0
Whatever bytes work class words cells c k l st memo g env u F =
    (r : KeyCounts) (fill : ℕ) (P : Pack) (b : Built) (h : Graph) → Begun bytes work class words cells c k l r st memo fill g env u P b h → F r fill P b h

-- what is answered
abbrev pub TakesAll : List ℕ → List ℕ → List ℕ → List ℕ → List ℕ → List ℕ → List ℕ → Catalog → Keying → Layout → Store → Memo → Counts → List ℕ → Ruling → List ℕ → Result Reached Refusal → Type 0
TakesAll bytes work work' class words cells cells' c k l st memo g env u instances' (Ok t) =
    Outside l.copied l.end work work'
    × Whatever bytes work class words cells c k l st memo g env u (λ r fill P b h. Done bytes work' class words cells cells' c k l r st t.memo fill t.graph env u instances' t.from t.copies P b h)
TakesAll bytes work work' class words cells cells' c k l st memo g env u instances' (Err z) =
    Whatever bytes work class words cells c k l st memo g env u (λ r fill P b h. (L : Lent) → L.graph ≡ length cells → outcome L (takes P b u (all_of P u) (refs_of P u) (start h)) ≡ refuse z)

-- both of buffers that are lent and what is at hand
abbrev pub StartingIn : Buffers → Building → Counts → List ℕ → Ruling → List ℕ → Type 0
StartingIn B s g env u instances = Starting B.pack B.work B.class B.pattern B.graph s.catalog s.keying s.layout s.store s.memo g env u instances

abbrev pub TakesAllIn : Buffers → Buffers → Building → Counts → List ℕ → Ruling → List ℕ → Result Reached Refusal → Type 0
TakesAllIn B B' s g env u instances' r =
    TakesAll B.pack B.work B'.work B.class B.pattern B.graph B'.graph s.catalog s.keying s.layout s.store s.memo g env u instances' r

-- ---- the loop
-- i premises are taken
pub record Mid (bytes work class words cells₀ cells : List ℕ) (c : Catalog) (k : Keying) (l : Layout) (r : KeyCounts) (st : Store) (memo : Memo) (fill : ℕ) (g : Counts) (env : List ℕ) (u : Ruling) (instances : List ℕ) (i from copies : ℕ)
    (P : Pack) (b : Built) (h : Graph) : Type 0 where
  pub terms : Terms
  pub refs : List ℕ
  pub state : Premises
  pub here : Here bytes work class words cells c k l r st memo fill g env u i from copies P b terms refs state
  pub instances_are : take i instances ≡ state.instances
  pub judgments : state.judgments ≡ judged P (take i (refs_of P u))
  pub same : (L : Lent) → L.graph ≡ length cells₀ → outcome L (takes P b u terms refs state) ≡ outcome L (takes P b u (all_of P u) (refs_of P u) (start h))

pub record Going (bytes before work class words cells₀ cells : List ℕ) (c : Catalog) (k : Keying) (l : Layout) (st : Store) (memo₀ memo : Memo) (g₀ g : Counts) (env : List ℕ) (u : Ruling) (instances₀ instances : List ℕ) (i from copies : ℕ) : Type 0 where
  pub outside : Outside l.copied l.end before work
  pub many : length cells ≡ length cells₀
  pub long : length instances ≡ length instances₀
  pub low : i ≤ u.premises
  pub state : Whatever bytes before class words cells₀ c k l st memo₀ g₀ env u (λ r fill P b h. Mid bytes work class words cells₀ cells c k l r st memo fill g env u instances i from copies P b h)

pub going_none : (bytes work class words cells : List ℕ) (c : Catalog) (k : Keying) (l : Layout) (st : Store) (memo : Memo) (g : Counts) (env : List ℕ) (u : Ruling) (instances : List ℕ) → Going bytes work work class words cells cells c k l st memo memo g g env u instances instances 0 0 0
going_none bytes work class words cells c k l st memo g env u instances = record {
  outside = outside_none l.copied l.end work;
  many = refl;
  long = refl;
  low = omega arith;
  state = λ r fill P b h B. record { terms = all_of P u; refs = refs_of P u; state = start h; here = B; instances_are = refl; judgments = refl; same = λ L e. refl };
}

judged-more : (P : Pack) (xs : List ℕ) (i : ℕ) → i < length xs → judged P (take (suc i) xs) ≡ judged P (take i xs) ++ ((step_of P (get_or xs i 0)).judgment ∷ [])
judged-more P [] i h = absurd (omega arith)
judged-more P (x ∷ xs) zero h = refl
judged-more P (x ∷ xs) (suc i) h = ap (λ (ys : List ℕ). (step_of P x).judgment ∷ ys) (judged-more P xs i (omega arith))

module _ (bytes before class words cells₀ : List ℕ) (c : Catalog) (k : Keying) (l : Layout) (st : Store) (memo₀ : Memo) (g₀ : Counts) (env : List ℕ) (u : Ruling) (instances₀ : List ℕ)
    (T : Starting bytes before class words cells₀ c k l st memo₀ g₀ env u instances₀) (work cells : List ℕ) (memo : Memo) (g : Counts) (instances : List ℕ) (i from copies : ℕ)
    (G : Going bytes before work class words cells₀ cells c k l st memo₀ memo g₀ g env u instances₀ instances i from copies) where
  abbrev mid : Mid bytes work class words cells₀ cells c k l T.counts st memo T.fill g env u instances i from copies T.pack T.built T.graph
  mid = G.state T.counts T.fill T.pack T.built T.graph T.begun

  pub going_next : i < u.premises → Nexting bytes work class words cells c k l st memo g env u i from copies
  going_next h = record { counts = T.counts; fill = T.fill; pack = T.pack; built = T.built; terms = mid.terms; refs = mid.refs; state = mid.state; here = mid.here; more = h }

  -- as many refs as premises
  refs-many : (r : KeyCounts) (fill : ℕ) (P : Pack) (b : Built) (h : Graph) → Begun bytes before class words cells₀ c k l r st memo₀ fill g₀ env u P b h → length (refs_of P u) ≡ u.premises
  refs-many r fill P b h B =
      length-map (step_of P u.step).refs _ ∙ (B.standing.proper.good.steps u.step B.ruled.step).refs ∙ ap (λ (n : ℕ). count (rule_of P n).premises) (sym B.ruled.rule) ∙ sym B.ruled.premises

  pub going_on : i < u.premises → (work' cells' : List ℕ) (t : Reached) (x : Node) → length cells' ≡ length cells
      → Nexts bytes work work' class words cells cells' c k l st memo g env u i from copies (Ok (t, x))
      → Going bytes before work' class words cells₀ cells' c k l st memo₀ t.memo g₀ t.graph env u instances₀ (set instances i x.0) (i + 1) t.from t.copies
  going_on more work' cells' t x long N = record {
    outside = outside_then l.copied l.end before work work' G.outside N.0;
    many = long ∙ G.many;
    long = length-set instances i x.0 ∙ G.long;
    low = omega arith;
    state = λ r fill P b h B.
        let M = G.state r fill P b h B in
        let X = N.1 r fill P b M.terms M.refs M.state M.here in
        let one : i + 1 ≡ suc i = omega arith in
        let q = refs-many r fill P b h B in
        subst (λ (j : ℕ). Mid bytes work' class words cells₀ cells' c k l r st t.memo fill t.graph env u (set instances i x.0) j t.from t.copies P b h) (sym one) (record {
          terms = X.terms;
          refs = X.refs';
          state = X.state;
          here = X.here;
          instances_are = take-suc-set instances i x.0 (omega (arith, G.long, T.room)) ∙ ap (λ (xs : List ℕ). xs ++ (x.0 ∷ [])) M.instances_are ∙ sym X.instances;
          judgments = X.judgments ∙ ap (λ (xs : List ℕ). xs ++ ((step_of P (get_or (refs_of P u) i 0)).judgment ∷ [])) M.judgments ∙ sym (judged-more P (refs_of P u) i (omega (arith, q)));
          same = λ L e. sym (X.same L (e ∙ sym G.many)) ∙ M.same L e;
        });
  }

  pub going_refused : (work' cells' : List ℕ) (z : Refusal) → Nexts bytes work work' class words cells cells' c k l st memo g env u i from copies (Err z) → TakesAll bytes before work' class words cells₀ cells' c k l st memo₀ g₀ env u instances (Err z)
  going_refused work' cells' z N r fill P b h B L e = let M = G.state r fill P b h B in sym (M.same L e) ∙ N r fill P b M.terms M.refs M.state M.here L (e ∙ sym G.many)

  -- no term is left
  none_left : (ts : Terms) → count ts ≡ 0 → ts ≡ nil
  unfolding count
  none_left nil e = refl
  none_left (cons t ts) e = absurd (omega arith)

  pub going_done : u.premises ≤ i → TakesAll bytes before work class words cells₀ cells c k l st memo₀ g₀ env u instances (Ok (record { graph = g; memo = memo; from = from; copies = copies }))
  unfolding take_premises
  going_done h = (
    G.outside,
    λ r fill P b k' B.
        let M = G.state r fill P b k' B in
        let e : i ≡ u.premises = omega (arith, G.low) in
        let z : M.terms ≡ nil = none_left M.terms (omega (arith, M.here.left)) in
        let at : Here bytes work class words cells c k l r st memo fill g env u u.premises from copies P b nil M.refs M.state =
        subst (λ (j : ℕ). Here bytes work class words cells c k l r st memo fill g env u j from copies P b nil M.refs M.state) e (subst (λ (ts : Terms). Here bytes work class words cells c k l r st memo fill g env u i from copies P b ts M.refs M.state) z M.here) in
        record {
          refs = M.refs;
          state = M.state;
          here = at;
          instances = ap (λ (j : ℕ). take j instances) (sym e) ∙ M.instances_are;
          judgments = M.judgments ∙ ap (judged P) (ap (λ (j : ℕ). take j (refs_of P u)) e ∙ take_all u.premises (refs_of P u) (omega (arith, refs-many r fill P b k' B)));
          is = λ L q. sym (M.same L q) ∙ ap (λ (ts : Terms). outcome L (takes P b u ts M.refs M.state)) z ∙ outcome-return-end L M.state;
        },
  )
