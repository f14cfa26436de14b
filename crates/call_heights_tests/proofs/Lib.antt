mod GraphLemmas
