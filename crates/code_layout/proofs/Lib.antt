mod BoxLemmas
