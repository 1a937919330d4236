-- What a watch stands for and serves with, by equal lists.
use Rattle.std.proofs.Common.{◌≡◌, ◌∙◌, ℕ, List, ap, subst, sym}
use Rattle.std.specs.Prelude.{Option}
use Rattle.hfsc_model.specs.declared.HfscClass.{HfscClass}
use Rattle.hfsc_model.specs.Event.{HfscHistory}
use Rattle.share_gaps.specs.declared.lead.Lead.{Lead}
use Rattle.share_gaps.specs.declared.siblings.Siblings.{Siblings}
use Rattle.share_gaps.specs.Watching.{Stand}
use Rattle.share_gaps.specs.Serve.{first_served, second_served, update_all}

pub record Serving : Type 0 where
  pub siblings : List Siblings
  pub waiting : List ℕ
  pub rates : List (Option ℕ)
  pub amount : ℕ
  pub rows : List ℕ
  pub leads : List Lead

pub record AreSame (x y : Serving) : Type 0 where
  pub siblings : x.siblings ≡ y.siblings
  pub waiting : x.waiting ≡ y.waiting
  pub rates : x.rates ≡ y.rates
  pub amount : x.amount ≡ y.amount
  pub rows : x.rows ≡ y.rows
  pub leads : x.leads ≡ y.leads

same_serving : (x y : Serving) → AreSame x y → x ≡ y
same_serving x y s =
    ap (λ (k : List Siblings). record x { siblings = k }) s.siblings ∙ ap (λ (k : List ℕ). record x { siblings = y.siblings; waiting = k }) s.waiting
    ∙ ap (λ (k : List (Option ℕ)). record y { rates = k; amount = x.amount; rows = x.rows; leads = x.leads }) s.rates
    ∙ ap (λ (k : ℕ). record y { amount = k; rows = x.rows; leads = x.leads }) s.amount
    ∙ ap (λ (k : List ℕ). record y { rows = k; leads = x.leads }) s.rows ∙ ap (λ (k : List Lead). record y { leads = k }) s.leads

pub same_firsts : (x y : Serving) → AreSame x y
    → update_all (first_served x.siblings x.waiting x.rates x.amount) x.rows x.leads ≡ update_all (first_served y.siblings y.waiting y.rates y.amount) y.rows y.leads
same_firsts x y s = ap (λ (z : Serving). update_all (first_served z.siblings z.waiting z.rates z.amount) z.rows z.leads) (same_serving x y s)

pub same_seconds : (x y : Serving) → AreSame x y
    → update_all (second_served x.siblings x.waiting x.rates x.amount) x.rows x.leads ≡ update_all (second_served y.siblings y.waiting y.rates y.amount) y.rows y.leads
same_seconds x y s = ap (λ (z : Serving). update_all (second_served z.siblings z.waiting z.rates z.amount) z.rows z.leads) (same_serving x y s)

pub stand_same : (cs : List HfscClass) (ss : List Siblings) (V W : List ℕ) (K L : List Lead) (n m : ℕ) (h : HfscHistory) → V ≡ W → K ≡ L → n ≡ m
    → Stand cs ss W L m h → Stand cs ss V K n h
stand_same cs ss V W K L n m h a b c s =
    subst (λ (v : List ℕ). Stand cs ss v K n h) (sym a) (subst (λ (k : List Lead). Stand cs ss W k n h) (sym b) (subst (λ (x : ℕ). Stand cs ss W L x h) (sym c) s))
