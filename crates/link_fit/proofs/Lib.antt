mod CurveLemmas
