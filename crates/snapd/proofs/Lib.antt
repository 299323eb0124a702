mod Uncalled
