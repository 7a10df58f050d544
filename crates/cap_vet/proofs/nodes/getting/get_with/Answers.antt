-- What is given within the limits is given under the demands.
use Rattle.cap_walk.specs.Limits.{depth_of, words_of}
use Rattle.cap_vet.proofs.GivenPaths.{given_accepts, given_refuses}
use Rattle.cap_vet.proofs.nodes.getting.get_with.Goals as goal
use Rattle.cap_spec.proofs.ProofNames.{rules, ◌∙◌, List}
use Rattle.cap_vet.specs.VetNames.{Step}

pub returns : goal.returns
returns g c =
    let given = λ (steps : List Step) (left : g.S.StepSource.gives c.args.path steps).
    c.given_within.ensures.given (words_of c.args.limits) (depth_of c.args.limits) steps left
    (c.words.ensures.value ∙ c.limits_under-limits.ensures.words) (c.depth.ensures.value ∙ c.limits_under-limits.ensures.depth) in
    record {
      meets = λ steps left. (given steps left).meets;
      none = λ steps left. (given steps left).none;
      some = λ steps left. (given steps left).some;
      message = search rules;
      err = λ steps left. (given steps left).err;
      accepts = λ steps left. given_accepts c.args.demands _ _ _ steps _ (given steps left);
      refuses = λ steps r left. given_refuses c.args.demands _ _ _ steps _ r (given steps left);
    }
