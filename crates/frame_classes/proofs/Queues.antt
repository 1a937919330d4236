-- What holds of the class of each filter, of the default class and of the classes with control holds of the class of a flow.
use Rattle.std.proofs.Common.{◌≡◌, ℕ, suc, ◌+◌, ◌≤◌, ◌==◌, Bool, true, false, cond, List, [], ◌∷◌, Option, Some, slice_get, refl, subst, arith}
use Rattle.std.specs.Prelude.{All, find, filter}
use Rattle.std.specs.List.{flat_map, enumerate_from}
use Rattle.std.specs.Option.{option_map_or}
use Rattle.std.proofs.lemmas.List.Elements.{All-nil, All-head, All-tail, All-cons, All-append, All-filter, All-from_recursion}
use Rattle.conf_tree.specs.declared.class.Class.{Class}
use Rattle.conf_tree.specs.declared.filter.Filter.{Filter}
use Rattle.conf_tree.specs.declared.interface.Interface.{Interface}
use Rattle.conf_tree.specs.Family.{is_queue_class}
use Rattle.conf_laws.specs.Laws.{HasQueues}
use Rattle.flow_filter.specs.Matches.{matches}
use Rattle.flow_filter.specs.Rules.{Rules, rules_of, filters_of_control, control_filters}
use Rattle.flow_filter.specs.Winner.{matching, greatest}
use Rattle.packet_heads.specs.Flow.{Flow, V4, V6, Other}
use Rattle.packet_heads.specs.Points.{code_point, is_assured_at, precedence_of, precedence}
use Rattle.frame_classes.specs.Laws.{ClassIsAQueue}

found_step : {X : Type 0} (f : X → ℕ) (t : Bool) (x : X) (rest : Option X) (d : ℕ) (P : ℕ → Type 0) → P (f x) → P (option_map_or f rest d)
    → P (option_map_or f (cond t (Some x) rest) d)
found_step f true x rest d P here more = here
found_step f false x rest d P here more = more

found : {X : Type 0} (P : ℕ → Type 0) (d : ℕ) (f : X → ℕ) (test : X → Bool) (xs : List X) → All (λ x. P (f x)) xs → P d → P (option_map_or f (find test xs) d)
found P d f test [] all h = h
found P d f test (x ∷ xs) all h =
    found_step f (test x) x (find test xs) d P (All-head (λ y. P (f y)) x xs all) (found P d f test xs (All-tail (λ y. P (f y)) x xs all) h)

-- the filters of control
of_control : (P : ℕ → Type 0) (class : ℕ) → P class → All (λ f. P f.class) (filters_of_control class)
of_control P class h = All-from_recursion (λ f. P f.class) (filters_of_control class) (h, (h, (h, (h, tt))))

kept : (P : ℕ → Type 0) (i : ℕ) (t : Bool) (c : Class) (rest : List (ℕ × Class)) → (t ≡ true → P i)
    → All (λ f. P f.class) (flat_map (λ numbered. filters_of_control numbered.0) rest)
    → All (λ f. P f.class) (flat_map (λ numbered. filters_of_control numbered.0) (cond t ((i, c) ∷ rest) rest))
kept P i true c rest h all =
    All-append (λ f. P f.class) (filters_of_control i) (flat_map (λ numbered. filters_of_control numbered.0) rest) (of_control P i (h refl)) all
kept P i false c rest h all = all

plus_suc : (i k : ℕ) → i + suc k ≡ i + 1 + k
plus_suc i k = omega arith

controls : (P : ℕ → Type 0) (i : ℕ) (classes : List Class) → ((k : ℕ) (c : Class) → slice_get classes k ≡ Some c → c.control ≡ true → P (i + k))
    → All (λ f. P f.class) (flat_map (λ numbered. filters_of_control numbered.0) (filter (λ numbered. numbered.1.control) (enumerate_from i classes)))
controls P i [] h = All-nil (λ f. P f.class)
controls P i (c ∷ classes) h =
    let here : i + 0 ≡ i = omega arith in
    kept P i c.control c (filter (λ numbered. numbered.1.control) (enumerate_from (i + 1) classes)) (λ t. subst P here (h 0 c refl t))
    (controls P (i + 1) classes (λ k x at t. subst P (plus_suc i k) (h (suc k) x at t)))

-- the filters of the text
each : (P : ℕ → Type 0) (filters : List Filter) → ((k : ℕ) (f : Filter) → slice_get filters k ≡ Some f → P f.class) → All (λ f. P f.class) filters
each P [] h = All-nil (λ f. P f.class)
each P (f ∷ filters) h = All-cons (λ f. P f.class) f filters (h 0 f refl) (each P filters (λ k g at. h (suc k) g at))

pub class_is_a_queue : (i : Interface) (flow : Flow) → HasQueues i → ClassIsAQueue i flow
class_is_a_queue i flow h =
    let P : ℕ → Type 0 = λ n. is_queue_class i.kind i.classes n ≡ true in
    let rules : Rules = rules_of i in
    let left : List Filter = matching rules.filters flow in
    let counted : (k : ℕ) (c : Class) → slice_get i.classes k ≡ Some c → c.control ≡ true → P (0 + k) = λ k c at t.
    let same : k ≡ 0 + k = omega arith in subst P same (h.control k c at t) in
    let all : All (λ f. P f.class) rules.filters =
    All-append (λ f. P f.class) i.filters (control_filters i.classes) (each P i.filters h.filter) (controls P 0 i.classes counted) in
    found P rules.otherwise (λ f. f.class) (λ f. f.ruleno == greatest left) left (All-filter (λ f. matches f flow) (λ f. P f.class) rules.filters all) h.default

-- precedences
three : (a b : Bool) → cond a 1 (cond b 2 0) ≤ 2
three true b = omega arith
three false true = omega arith
three false false = omega arith

of_point : (point : ℕ) → precedence_of point ≤ 2
of_point point = three (is_assured_at 4 point) (is_assured_at 6 point)

pub at_most_two : (flow : Flow) → precedence flow ≤ 2
at_most_two (V4 heads) = of_point (code_point heads.tos)
at_most_two (V6 heads) = of_point (code_point heads.tos)
at_most_two Other = omega arith
