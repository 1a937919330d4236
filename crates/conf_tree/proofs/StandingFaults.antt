-- A fault of a statement stands whatever follows.
use Rattle.std.proofs.Common.{◌≡◌, ◌⊎◌, inl, inr, ⊎_elim, ◌∙◌, List, [], ◌∷◌, ◌++◌, Some, None, Result, Ok, Err, refl, sym, ap, subst}
use Rattle.std.specs.Option.{IfSome}
use Rattle.std.proofs.lemmas.Bool.{cond_both}
use Rattle.std.proofs.lemmas.List.{append-nil}
use Rattle.conf_lines.specs.declared.fault.ConfKind.TheVariants.{NoDefault}
use Rattle.conf_lines.specs.declared.fault.ConfPlace.{ConfPlace}
use Rattle.conf_lines.specs.declared.statement.Statement.{Statement}
use Rattle.conf_tree.specs.declared.interface.Interface.{Interface}
use Rattle.conf_tree.specs.Reading.{read_statement, reading_from}
use Rattle.conf_tree.specs.Tree.{Begun}
use Rattle.conf_tree.specs.Whole.{undecided, first_undecided, finished_unless}

-- statements before others
abbrev pub read_all : List Begun → List Statement → Result (List Begun) ConfPlace
read_all before [] = Ok before
read_all before (s ∷ statements) = elim (read_statement before s) [ Ok after ↦ read_all after statements | Err fault ↦ Err fault ]

abbrev pub then_read : Result (List Begun) ConfPlace → List Statement → Result (List Interface) ConfPlace
then_read read statements = elim read [ Ok after ↦ reading_from after statements | Err fault ↦ Err fault ]

pub reading-append : (before : List Begun) (statements more : List Statement)
    → reading_from before (statements ++ more) ≡ then_read (read_all before statements) more
reading-append before [] more = refl
reading-append before (s ∷ statements) more =
    elim (read_statement before s) as
    (λ read. then_read read (statements ++ more) ≡ then_read (elim read [ Ok after ↦ read_all after statements | Err fault ↦ Err fault ]) more)
    [ Ok after ↦ reading-append after statements more | Err fault ↦ refl ]

-- the fault at the end of the text
pub record IsAtEnd (fault : ConfPlace) : Type 0 where
  pub kind : fault.kind ≡ NoDefault
  pub word : fault.word ≡ 0

undecided_at : (interfaces : List Begun) → IfSome (first_undecided interfaces) IsAtEnd
undecided_at [] = tt
undecided_at (b ∷ interfaces) =
    cond_both (undecided b) _ _ (λ o. IfSome o IsAtEnd) (λ e. record { kind = refl; word = refl }) (λ e. undecided_at interfaces)

pub at_end : (interfaces : List Begun) (fault : ConfPlace) → reading_from interfaces [] ≡ Err fault → IsAtEnd fault
at_end interfaces fault =
    (elim (first_undecided interfaces) as (λ o. IfSome o IsAtEnd → finished_unless interfaces o ≡ Err fault → IsAtEnd fault)
    [ None ↦ λ h e. cc | Some place ↦ λ h e. let same : place ≡ fault = cc in subst IsAtEnd same h ]) (undecided_at interfaces)

-- a fault of statements is that of their end, or one of theirs
pub at_end_or_read : (read : Result (List Begun) ConfPlace) (fault : ConfPlace) → then_read read [] ≡ Err fault → IsAtEnd fault ⊎ (read ≡ Err fault)
at_end_or_read (Ok interfaces) fault e = inl (at_end interfaces fault e)
at_end_or_read (Err place) fault e = let same : place ≡ fault = cc in inr (ap (λ x. Err x) same)

pub stands : (before : List Begun) (statements more : List Statement) (fault : ConfPlace) → reading_from before statements ≡ Err fault
    → (fault.kind ≡ NoDefault) ⊎ (reading_from before (statements ++ more) ≡ Err fault)
stands before statements more fault e =
    let all = sym (reading-append before statements []) ∙ ap (reading_from before) (append-nil statements) ∙ e in
    ⊎_elim (λ end. inl end.kind) (λ read. inr (reading-append before statements more ∙ ap (λ r. then_read r more) read))
    (at_end_or_read (read_all before statements) fault all)
