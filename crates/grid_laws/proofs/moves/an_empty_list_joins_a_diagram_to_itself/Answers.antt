use Rattle.grid_laws.proofs.moves.an_empty_list_joins_a_diagram_to_itself.Goals as goal

pub returns : goal.returns
returns c = λ d e. (λ same. same, λ same. same)
